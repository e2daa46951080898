use Rattle.rw_commands.proofs.CauseLemmas.{cause_earlier}
use Rattle.rw_commands.proofs.FilesRead.{all_read, batches_fit, cell_there, policy_fits, some_kept, text_there}
use Rattle.rw_commands.proofs.Common.{command_said, option_map}
use Rattle.rw_commands.specs.Command.{wants_text}
use Rattle.rw_commands.specs.declared.refusal.File.TheVariants.{Edits, Traces}
use Rattle.rw_commands.proofs.files.read_files.Goals as goal

pub returns-in-Ok-read_rest-clause-read : goal.returns-in-Ok-read_rest-clause-read
returns-in-Ok-read_rest-clause-read g c =
    all_read _ _ _ c.in-Ok.ensures.held c.in-Ok.pair.0 c.in-Ok-read_rest.behind c.in-Ok-read_rest.cell
    (option_map (λ bytes. bytes.items) c.in-Ok.pair.1) c.in-Ok.ensures.read
    c.in-Ok-read_rest.ensures.read.0 c.in-Ok-read_rest.ensures.read.1.0

pub returns-in-Ok-read_rest-clause-cell : goal.returns-in-Ok-read_rest-clause-cell
returns-in-Ok-read_rest-clause-cell g c =
    λ seeks. cell_there c.in-Ok.pair.0 c.in-Ok-read_rest.cell c.in-Ok-read_rest.ensures.read.1.1 (c.in-Ok-read_rest.ensures.read.1.0.some seeks)

pub returns-in-Err-read_rest-clause-read : goal.returns-in-Err-read_rest-clause-read
returns-in-Err-read_rest-clause-read g c =
    cause_earlier _ _ _ _ c.in-Err-read_rest.refusal c.in-Ok.ensures.held c.in-Ok.ensures.later c.in-Err-read_rest.ensures.read

pub returns-in-Ok-read_rest-clause-fits : goal.returns-in-Ok-read_rest-clause-fits
returns-in-Ok-read_rest-clause-fits g c =
    policy_fits _ _ c.in-Ok.pair.0 c.in-Ok-read_rest.behind.policy c.in-Ok-read_rest.ensures.read.0.policy

pub returns-in-Ok-read_rest-clause-edits : goal.returns-in-Ok-read_rest-clause-edits
returns-in-Ok-read_rest-clause-edits g c =
    batches_fit _ _ Edits c.in-Ok.pair.0 c.in-Ok-read_rest.behind.edits (λ batches. batches.items) c.in-Ok-read_rest.ensures.read.0.edits

pub returns-in-Ok-read_rest-clause-scenarios : goal.returns-in-Ok-read_rest-clause-scenarios
returns-in-Ok-read_rest-clause-scenarios g c =
    batches_fit _ _ Traces c.in-Ok.pair.0 c.in-Ok-read_rest.behind.scenarios (λ batches. batches.items) c.in-Ok-read_rest.ensures.read.0.scenarios

pub returns-in-Ok-read_rest-clause-text : goal.returns-in-Ok-read_rest-clause-text
returns-in-Ok-read_rest-clause-text g c = λ wanted.
    some_kept (λ bytes. bytes.items) c.in-Ok.pair.1 (text_there (wants_text (command_said c.args.command.now).job) c.in-Ok.ensures.read.model.text
    (option_map (λ bytes. bytes.items) c.in-Ok.pair.1) c.in-Ok.ensures.read.text_is wanted)

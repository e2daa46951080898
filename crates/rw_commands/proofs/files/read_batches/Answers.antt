use Rattle.rw_commands.proofs.CauseLemmas.{cause_earlier}
use Rattle.rw_commands.proofs.FilesRead.{batches_earlier, scenarios_reached}
use Rattle.rw_commands.specs.declared.refusal.File.TheVariants.{Traces}
use Rattle.rw_commands.proofs.files.read_batches.Goals as goal

pub read_scenarios-requires-clause-reached : goal.read_scenarios-requires-clause-reached
read_scenarios-requires-clause-reached g c =
    scenarios_reached _ _ _ c.in-Ok.ensures.held c.args.basin.now c.in-Ok.edits (λ batches. batches.items) c.requires.reached c.in-Ok.ensures.read

pub returns-in-Ok-read_scenarios-clause-read : goal.returns-in-Ok-read_scenarios-clause-read
returns-in-Ok-read_scenarios-clause-read g c = (
  c.in-Ok.ensures.read,
  batches_earlier _ _ _ c.in-Ok.ensures.held Traces c.args.basin.now c.in-Ok-read_scenarios.scenarios (λ batches. batches.items)
      c.in-Ok-read_scenarios.ensures.read,
)

pub returns-in-Err-read_scenarios-clause-read : goal.returns-in-Err-read_scenarios-clause-read
returns-in-Err-read_scenarios-clause-read g c =
    cause_earlier _ _ _ _ c.in-Err-read_scenarios.refusal c.in-Ok.ensures.held c.in-Ok.ensures.later c.in-Err-read_scenarios.ensures.read

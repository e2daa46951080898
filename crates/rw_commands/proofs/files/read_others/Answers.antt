use Rattle.rw_commands.proofs.CauseLemmas.{cause_earlier}
use Rattle.rw_commands.proofs.FilesRead.{batches_earlier, edits_reached}
use Rattle.rw_commands.specs.declared.refusal.File.TheVariants.{Edits, Traces}
use Rattle.rw_commands.proofs.files.read_others.Goals as goal

pub read_batches-requires-clause-reached : goal.read_batches-requires-clause-reached
read_batches-requires-clause-reached g c =
    edits_reached _ _ _ c.in-Ok.ensures.held c.args.basin.now c.in-Ok.pair.0 c.in-Ok.pair.1 c.requires.model c.in-Ok.ensures.read.0
    c.in-Ok.ensures.read.1

pub returns-in-Ok-read_batches-clause-read : goal.returns-in-Ok-read_batches-clause-read
returns-in-Ok-read_batches-clause-read g c = record {
  policy = c.in-Ok.ensures.read.0;
  inputs = c.in-Ok.ensures.read.1;
  edits =
      batches_earlier _ _ _ c.in-Ok.ensures.held Edits c.args.basin.now c.in-Ok-read_batches.edits (λ batches. batches.items)
      c.in-Ok-read_batches.ensures.read.0;
  scenarios =
      batches_earlier _ _ _ c.in-Ok.ensures.held Traces c.args.basin.now c.in-Ok-read_batches.scenarios (λ batches. batches.items)
      c.in-Ok-read_batches.ensures.read.1;
}

pub returns-in-Err-read_batches-clause-read : goal.returns-in-Err-read_batches-clause-read
returns-in-Err-read_batches-clause-read g c =
    cause_earlier _ _ _ _ c.in-Err-read_batches.refusal c.in-Ok.ensures.held c.in-Ok.ensures.later c.in-Err-read_batches.ensures.read

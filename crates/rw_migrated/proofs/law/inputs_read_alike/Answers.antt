use Rattle.rw_migrated.proofs.FarInputs.{reads_far}
use Rattle.rw_migrated.proofs.law.inputs_read_alike.Goals as goal

pub returns : goal.returns
returns c = reads_far

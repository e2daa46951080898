use Rattle.rw_commands.proofs.Common.{length}
use Rattle.rw_commands.proofs.reused.+write_from.Given as goal

abbrev pub decreases-write_from : goal.decreases-write_from
decreases-write_from g l = length l.batches.now

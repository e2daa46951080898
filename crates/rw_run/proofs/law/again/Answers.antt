use Rattle.rw_run.proofs.Agains.{again}
use Rattle.rw_run.proofs.law.again.Goals as goal

pub returns : goal.returns
returns c = again

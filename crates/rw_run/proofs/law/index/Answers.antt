use Rattle.rw_run.proofs.Reuses.{index}
use Rattle.rw_run.proofs.law.index.Goals as goal

pub returns : goal.returns
returns c = index

use Rattle.rw_run.proofs.Reuses.{reuse}
use Rattle.rw_run.proofs.law.reuse.Goals as goal

pub returns : goal.returns
returns c = reuse

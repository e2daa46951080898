use Rattle.rw_run.proofs.Sinces.{since_is}
use Rattle.rw_run.proofs.law.since_is.Goals as goal

pub returns : goal.returns
returns c = since_is

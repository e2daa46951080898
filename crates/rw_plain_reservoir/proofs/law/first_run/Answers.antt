use Rattle.rw_plain_reservoir.proofs.Whole.{first_run}
use Rattle.rw_plain_reservoir.proofs.law.first_run.Goals as goal

pub returns : goal.returns
returns c = first_run

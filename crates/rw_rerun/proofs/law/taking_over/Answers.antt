use Rattle.rw_rerun.proofs.Beginning.{takes_over}
use Rattle.rw_rerun.proofs.law.taking_over.Goals as goal

pub returns : goal.returns
returns c = takes_over

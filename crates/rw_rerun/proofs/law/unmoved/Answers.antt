use Rattle.rw_rerun.proofs.Standing.{unmoved_in}
use Rattle.rw_rerun.proofs.law.unmoved.Goals as goal

pub returns : goal.returns
returns c = unmoved_in

use Rattle.rw_rerun.proofs.Standing.{told_by}
use Rattle.rw_rerun.proofs.law.told.Goals as goal

pub returns : goal.returns
returns c = told_by

use Rattle.rw_base.specs.Quotient.{floor_div}
use Rattle.rw_base.proofs.Quotients.{IsFloor-floor_div, IsFloor_alone}
use Rattle.rw_base.proofs.law.floor_division.Goals as goal

pub returns-clause-floor : goal.returns-clause-floor
returns-clause-floor c = IsFloor-floor_div

pub returns-clause-alone : goal.returns-clause-alone
returns-clause-alone c a b q h floor = IsFloor_alone a b q (floor_div a b) h floor (IsFloor-floor_div a b)

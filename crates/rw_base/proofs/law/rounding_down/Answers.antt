use Rattle.std.specs.Prelude.{int_div}
use Rattle.rw_base.proofs.Rounding.{rounded_down_is, IsFromZeroTo-rounded_down, distance-rounded_down}
use Rattle.rw_base.proofs.law.rounding_down.Goals as goal

pub returns-clause-multiple : goal.returns-clause-multiple
returns-clause-multiple c a b h = (int_div a b, rounded_down_is a b h)

pub returns-clause-between : goal.returns-clause-between
returns-clause-between c = IsFromZeroTo-rounded_down

pub returns-clause-nearest : goal.returns-clause-nearest
returns-clause-nearest c = distance-rounded_down

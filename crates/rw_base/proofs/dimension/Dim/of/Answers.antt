use Rattle.rw_base.proofs.Common.{arith, rules, ints}
use Rattle.rw_base.proofs.Dimensions.{dimension_from}
use Rattle.rw_base.proofs.dimension.Dim.of.Goals as goal

pub returns-then-is_exponent-4 : goal.returns-then-is_exponent-4
returns-then-is_exponent-4 c =
    (search rules, dimension_from _ _ _ _ _ _ _ _ (omega (arith, ints)) (omega (arith, ints)) (omega (arith, ints)) (omega (arith, ints)))

use Rattle.rw_base.proofs.Common.{arith, ints}
use Rattle.rw_base.proofs.Dimensions.{AnswersDimension-same}
use Rattle.rw_base.proofs.dimension.Dim.times_per.Goals as goal

-- the exponents that are handed to `of` are those of the answer
pub returns : goal.returns
returns c = rw (← c.self.view_is, ← c.b.view_is, ← c.c.view_is)
    (AnswersDimension-same c.of.result _ _ c.of.ensures (omega (arith, ints)) (omega (arith, ints)) (omega (arith, ints)) (omega (arith, ints)))

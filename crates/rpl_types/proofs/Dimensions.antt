-- A dimension that is found is the one of which the test tells that it is one.
use Rattle.rw_base.proofs.Common.{◌≡◌, ◌∙◌, ap, sym, ℤ, pos, neg_ℤ, Option, None, Some, Decides, Decides-and}
use Rattle.rw_base.specs.Dimension.{Dimension, AnswersDimension, IsDimension, IsExponent}
use Rattle.rw_base.proofs.Tests.{Decides-from_to, fails, unless, where-true}
use Rattle.rpl_types.specs.Forms.{a_dimension, is_dimension, is_exponent, measured_in}

decides_exponent : (exponent : ℤ) → Decides (is_exponent exponent) (IsExponent exponent)
decides_exponent exponent =
    let decided = Decides-from_to (neg_ℤ (pos 6)) (pos 6) exponent in
    (λ e. record { low = (decided.0 e).0; high = (decided.0 e).1 }, λ h. decided.1 (h.low, h.high))

decides_dimension : (dimension : Dimension) → Decides (is_dimension dimension) (IsDimension dimension)
decides_dimension dimension =
    let all = Decides-and _ _ (Decides-and _ _ (Decides-and _ _ (decides_exponent dimension.volume) (decides_exponent dimension.length))
    (decides_exponent dimension.step)) (decides_exponent dimension.energy) in (
      λ e. record { volume = (all.0 e).0.0.0; length = (all.0 e).0.0.1; step = (all.0 e).0.1; energy = (all.0 e).1 },
      λ h. all.1 (((h.volume, h.length), h.step), h.energy),
    )

found : (answer : Option Dimension) (dimension : Dimension) → AnswersDimension dimension answer → answer ≡ a_dimension dimension
found None dimension answers_dimension =
    sym (unless (is_dimension dimension) (Some dimension) None (fails _ (decides_dimension dimension) answers_dimension))
found (Some x) dimension answers_dimension = ap Some answers_dimension.1
    ∙ sym (where-true (is_dimension dimension) (Some dimension) None ((decides_dimension dimension).1 answers_dimension.0))

pub product_found : (answer : Option Dimension) (dimension : Dimension) → AnswersDimension dimension answer
    → measured_in answer ≡ measured_in (a_dimension dimension)
product_found answer dimension answers_dimension = ap measured_in (found answer dimension answers_dimension)

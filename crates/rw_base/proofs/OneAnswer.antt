-- Each statement of an exact answer has one answer.
use Rattle.rw_base.proofs.Common.{◌≡◌, ℤ, Option, Some, None, Ok, Err, refl, sym, ap, ◌∙◌, Result}
use Rattle.rw_base.specs.declared.quantity.ArithFault.{ArithFault}
use Rattle.rw_base.specs.declared.quantity.ArithFault.TheVariants.{ZeroDivisor, OutOfRange}
use Rattle.rw_base.specs.Quantity.{AnswersExactly}
use Rattle.rw_base.specs.Dimension.{Dimension, AnswersDimension}

pub AnswersExactly_one : (exact : ℤ) (r s : Result ℤ ArithFault) → AnswersExactly exact r → AnswersExactly exact s → r ≡ s
AnswersExactly_one exact (Ok q) (Ok p) f g = ap Ok (f.1 ∙ sym g.1)
AnswersExactly_one exact (Ok q) (Err ZeroDivisor) f g = absurd g
AnswersExactly_one exact (Ok q) (Err (OutOfRange found)) f g = absurd (g.0 f.0)
AnswersExactly_one exact (Err ZeroDivisor) s f g = absurd f
AnswersExactly_one exact (Err (OutOfRange found)) (Ok p) f g = absurd (f.0 g.0)
AnswersExactly_one exact (Err (OutOfRange found)) (Err ZeroDivisor) f g = absurd g
AnswersExactly_one exact (Err (OutOfRange found)) (Err (OutOfRange other)) f g = ap (λ z. Err (OutOfRange z)) (f.1 ∙ sym g.1)

pub AnswersDimension_one : (d : Dimension) (r s : Option Dimension) → AnswersDimension d r → AnswersDimension d s → r ≡ s
AnswersDimension_one d None None f g = refl
AnswersDimension_one d None (Some y) f g = absurd (f g.0)
AnswersDimension_one d (Some x) None f g = absurd (g f.0)
AnswersDimension_one d (Some x) (Some y) f g = ap Some (f.1 ∙ sym g.1)

-- A dimension is its four exponents.
use Rattle.std.proofs.Common.{◌≡◌, ℤ, subst, Option}
use Rattle.rw_base.specs.Dimension.{Dimension, dimension, AnswersDimension}

pub dimension_from : (v w : ℤ) (l m : ℤ) (s t : ℤ) (e f : ℤ) → v ≡ w → l ≡ m → s ≡ t → e ≡ f → dimension v l s e ≡ dimension w m t f
dimension_from v w l m s t e f a b c d = cc

-- an answer about one dimension is an answer about another with the same exponents
pub AnswersDimension-same : (r : Option Dimension) (d e : Dimension) → AnswersDimension d r
    → d.volume ≡ e.volume → d.length ≡ e.length → d.step ≡ e.step → d.energy ≡ e.energy → AnswersDimension e r
AnswersDimension-same r d e h v l s n = subst (λ (x : Dimension). AnswersDimension x r) (dimension_from _ _ _ _ _ _ _ _ v l s n) h

-- What a comparison of two numbers computes.
use Rattle.rw_base.proofs.Common.{◌≡◌, ℤ, ◌≤ℤ◌, ◌<ℤ◌, int_le, int_lt, Bool, true, false, refl, sym, arith, ◌⊎◌, inl, inr, int_eq, signed_Decides}
use Rattle.rw_base.proofs.Common.{ints, by_lt_z, cases_Bool, both_ways}

-- the cases of two numbers
pub below_or_not : (a b : ℤ) → (a <ℤ b) ⊎ (b ≤ℤ a)
below_or_not a b = by_lt_z a b inl inr

pub same_or_not : (a b : ℤ) → (a ≡ b) ⊎ (¬ (a ≡ b))
same_or_not a b = elim (cases_Bool (int_eq a b)) [
  | inl same ↦ inl ((signed_Decides a b).0 same)
  | inr apart ↦ inr (λ same. both_ways (int_eq a b) apart ((signed_Decides a b).1 same))
]

-- a test that is not true is false
not_true : (b : Bool) → (b ≡ true → ⊥) → b ≡ false
not_true true h = absurd (h refl)
not_true false h = refl

-- the tests, each where it passes and where it fails
pub le_passes : (a b : ℤ) → a ≤ℤ b → int_le a b ≡ true
le_passes a b h = sym (omega (arith, ints))

pub le_fails : (a b : ℤ) → b <ℤ a → int_le a b ≡ false
le_fails a b h = sym (omega (arith, ints))

pub lt_passes : (a b : ℤ) → a <ℤ b → int_lt a b ≡ true
lt_passes a b h = sym (omega (arith, ints))

pub lt_fails : (a b : ℤ) → b ≤ℤ a → int_lt a b ≡ false
lt_fails a b h = sym (omega (arith, ints))

pub eq_passes : (a b : ℤ) → a ≡ b → int_eq a b ≡ true
eq_passes a b same = (signed_Decides a b).1 same

pub eq_fails : (a b : ℤ) → ¬ (a ≡ b) → int_eq a b ≡ false
eq_fails a b apart = not_true (int_eq a b) (λ is. apart ((signed_Decides a b).0 is))

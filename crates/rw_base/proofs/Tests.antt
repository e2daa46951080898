-- Tests on numbers, and choices by tests.
use Rattle.rw_base.proofs.Common.{◌≡◌, ◌≤◌, ℕ, nat_le, ℤ, ◌≤ℤ◌, ◌<ℤ◌, int_le, int_lt, Bool, true, false, if◌then◌else◌, Option, None, Some, refl, sym}
use Rattle.rw_base.proofs.Common.{arith, inl, inr, ◌⊎◌, Decides, both_ways, nat_tests, Decides-and, ints, by_lt_z, ⊎_elim}
use Rattle.rw_base.specs.Range.{is_from_to}

below-or-not : (a b : ℤ) → (a <ℤ b) ⊎ (b ≤ℤ a)
below-or-not a b = by_lt_z a b inl inr

le-fails : (a b : ℤ) → b <ℤ a → int_le a b ≡ false
le-fails a b h = sym (omega (arith, ints))

lt-fails : (a b : ℤ) → b ≤ℤ a → int_lt a b ≡ false
lt-fails a b h = sym (omega (arith, ints))

le-passes : (a b : ℤ) → a ≤ℤ b → int_le a b ≡ true
le-passes a b h = sym (omega (arith, ints))

lt-passes : (a b : ℤ) → a <ℤ b → int_lt a b ≡ true
lt-passes a b h = sym (omega (arith, ints))

pub Decides-int_le : (a b : ℤ) → Decides (int_le a b) (a ≤ℤ b)
Decides-int_le a b = (λ e. ⊎_elim (λ h. absurd (both_ways (int_le a b) (le-fails a b h) e)) (λ h. h) (below-or-not b a), le-passes a b)

pub Decides-int_lt : (a b : ℤ) → Decides (int_lt a b) (a <ℤ b)
Decides-int_lt a b = (λ e. ⊎_elim (λ h. h) (λ h. absurd (both_ways (int_lt a b) (lt-fails a b h) e)) (below-or-not a b), lt-passes a b)

pub Decides-from_to : (low high z : ℤ) → Decides (is_from_to low high z) ((low ≤ℤ z) × (z ≤ℤ high))
Decides-from_to low high z = Decides-and _ _ (Decides-int_le low z) (Decides-int_le z high)

pub Decides-le : (a b : ℕ) → Decides (nat_le a b) (a ≤ b)
Decides-le a b = grind (arith, nat_tests)

-- a test fails exactly where the fact doesn't hold
pub fails : {P : Type 0} (b : Bool) → Decides b P → ¬ P → b ≡ false
fails true d apart = absurd (apart (d.0 refl))
fails false d apart = refl

pub denied : {P : Type 0} (b : Bool) → Decides b P → b ≡ false → ¬ P
denied b d e = λ p. both_ways b e (d.1 p)

-- a choice whose test fails, or passes
pub unless : {A : Type 0} (b : Bool) (x y : A) → b ≡ false → (if b then x else y) ≡ y
unless true x y e = absurd (both_ways true e refl)
unless false x y e = refl

pub where-true : {A : Type 0} (b : Bool) (x y : A) → b ≡ true → (if b then x else y) ≡ x
where-true true x y e = refl
where-true false x y e = absurd (both_ways false refl e)

-- one choice after another is none exactly where the first test passes and the rest is none
pub passed : {A : Type 0} (b : Bool) (rest : Option A) (x : A) → (if b then rest else Some x) ≡ None → (b ≡ true) × (rest ≡ None)
passed true rest x e = (refl, e)
passed false rest x e = cc

pub spared : {A : Type 0} (b : Bool) (rest : Option A) (x : A) → (if b then Some x else rest) ≡ None → (b ≡ false) × (rest ≡ None)
spared true rest x e = cc
spared false rest x e = (refl, e)

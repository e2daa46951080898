-- The count down to the greatest elevation whose volume is at most s.
use Rattle.rw_table.proofs.Common.{Bool, IsAtMost, IsSomeAnd, List, MatchOption, None, Option, Row, Some, arith, cases_eq, cond, false}
use Rattle.rw_table.proofs.Common.{greatest_up_to, inl, inr, ints, is_at_most, pos, refl, suc, true, vol_of, zero, ℕ, ℤ, ◌<◌, ◌≡◌, ◌≤ℤ◌, ◌≤◌}

-- the volume that is at most s
pub volume_at_most : (o : Option ℤ) (s : ℤ) → IsSomeAnd o (λ v. v ≤ℤ s) → (v : ℤ) × (o ≡ Some v) × (v ≤ℤ s)
volume_at_most None s h = absurd h
volume_at_most (Some v) s h = (v, refl, h)

-- such a volume, as a fact of the answer
pub at_most_from : (o : Option ℤ) (s v : ℤ) → o ≡ Some v → v ≤ℤ s → IsSomeAnd o (λ v. v ≤ℤ s)
at_most_from o s v is h = rw is h

-- what the test says where it passes and where it fails
passed : (o : Option ℤ) (s : ℤ) → is_at_most o s ≡ true → IsSomeAnd o (λ v. v ≤ℤ s)
passed None s h = cc
passed (Some v) s h = omega (arith, ints)

failed : (o : Option ℤ) (s : ℤ) → is_at_most o s ≡ false → ¬ IsSomeAnd o (λ v. v ≤ℤ s)
failed None s h = λ m. m
failed (Some v) s h = λ m. omega (arith, ints)

-- the greatest below n whose volume is at most s
pub record IsCounted (rows : List Row) (s : ℤ) (n : ℕ) (e : ℤ) : Type 0 where
  pub place : ℕ
  pub is : e ≡ pos place
  pub at_most : IsAtMost rows e s
  pub greatest : (k : ℕ) → k < n → IsAtMost rows (pos k) s → k ≤ place

-- what the count answers: the greatest, or that there is none
abbrev pub Counts : List Row → ℤ → ℕ → Option ℤ → Type 0
Counts rows s n o = MatchOption o ((k : ℕ) → k < n → ¬ IsAtMost rows (pos k) s) (IsCounted rows s n)

-- n is not at most s, so the count goes on below it
count_on : (rows : List Row) (s : ℤ) (n : ℕ) (below : Option ℤ) → ¬ IsAtMost rows (pos n) s → Counts rows s n below → Counts rows s (suc n) below
count_on rows s n None not_here none = λ k within at_most. elim (cases_eq k n) [
  | inl same ↦ not_here (rw same at at_most)
  | inr other ↦ none k (omega arith) at_most
]
count_on rows s n (Some e) not_here some = record {
  place = some.place;
  is = some.is;
  at_most = some.at_most;
  greatest = λ k within at_most. elim (cases_eq k n) [
    | inl same ↦ absurd (not_here (rw same at at_most))
    | inr other ↦ some.greatest k (omega arith) at_most
  ];
}

-- one step of the count
count_one : (rows : List Row) (s : ℤ) (n : ℕ) (below : Option ℤ) (b : Bool) → is_at_most (vol_of rows (pos n)) s ≡ b → Counts rows s n below
    → Counts rows s (suc n) (cond b (Some (pos n)) below)
count_one rows s n below true is counts = record {
  place = n;
  is = refl;
  at_most = passed (vol_of rows (pos n)) s is;
  greatest = λ k within at_most. omega arith;
}
count_one rows s n below false is counts = count_on rows s n below (failed (vol_of rows (pos n)) s is) counts

-- the whole count
pub counted : (rows : List Row) (s : ℤ) (n : ℕ) → Counts rows s (suc n) (greatest_up_to rows s n)
counted rows s zero = count_one rows s zero None _ refl (λ k within. absurd (omega arith))
counted rows s (suc n) = count_one rows s (suc n) _ _ refl (counted rows s n)

-- The lowest priority beside a term.
use Rattle.rw_method.proofs.Common.{All, Bool, Contains, Decides-eqb, IsGreatestBeside, List, Term, [], arith, both_ways, cases_Bool, cases_lt, false}
use Rattle.rw_method.proofs.Common.{greatest_beside, if◌then◌else◌, inl, inr, max, priority_of, refl, suc, true, ℕ, ◌<◌, ◌==◌, ◌∙◌, ◌∷◌, ◌≡◌, ◌≢◌}
use Rattle.rw_method.proofs.Common.{◌≤◌, ◌⊎◌}
use Rattle.rw_method.proofs.GivingWay.{and_pass, none_pass}

apart : (a b : ℕ) → (a == b) ≡ false → a ≢ b
apart a b not_same same = both_ways (a == b) not_same ((Decides-eqb a b).1 same)

-- the number of the first, where its place is another
first_counts : (b : Bool) (number rest m : ℕ) → max (if b then 0 else number) rest ≤ m → b ≡ false → number ≤ m
first_counts true number rest m h not_same = absurd (both_ways true not_same refl)
first_counts false number rest m h not_same = omega (arith, h)

rest_counts : (first rest m : ℕ) → max first rest ≤ m → rest ≤ m
rest_counts first rest m h = omega (arith, h)

differs : (a b : ℕ) → a ≢ b → (a == b) ≡ false
differs a b other = elim (cases_Bool (a == b)) [
  | inl same ↦ absurd (other ((Decides-eqb a b).0 same))
  | inr not_same ↦ not_same
]

most : (place m : ℕ) (terms : List Term) → greatest_beside place terms ≤ m
    → All (λ (other : Term). other.place ≢ place → priority_of other.given ≤ m) terms
most place m [] h = none_pass (λ (other : Term). other.place ≢ place → priority_of other.given ≤ m)
most place m (term ∷ terms) h =
    and_pass (λ (other : Term). other.place ≢ place → priority_of other.given ≤ m) term terms
    (λ other. first_counts (term.place == place) (priority_of term.given) (greatest_beside place terms) m h (differs term.place place other))
    (most place m terms (rest_counts (if term.place == place then 0 else priority_of term.given) (greatest_beside place terms) m h))

-- one of the others has that number
abbrev HasOne : ℕ → List Term → ℕ → Type 0
HasOne place terms number = (other : Term) × Contains terms other × (other.place ≢ place) × (priority_of other.given ≡ number)

first_has : (place : ℕ) (term : Term) (terms : List Term) (b : Bool) → (term.place == place) ≡ b
    → greatest_beside place terms < (if b then 0 else priority_of term.given)
    → HasOne place (term ∷ terms) (max (if b then 0 else priority_of term.given) (greatest_beside place terms))
first_has place term terms true is more = absurd (omega (arith, more))
first_has place term terms false is more = (term, (0, omega arith, refl), apart term.place place is, omega (arith, more))

one : (place : ℕ) (terms : List Term) → (greatest_beside place terms ≡ 0) ⊎ HasOne place terms (greatest_beside place terms)
one place [] = inl refl
one place (term ∷ terms) =
    elim (cases_lt (greatest_beside place terms) (if term.place == place then 0 else priority_of term.given)) [
      | inl more ↦ inr (first_has place term terms (term.place == place) refl more)
      | inr less ↦ elim (one place terms) [
        | inl none ↦ inl (omega (arith, less, none))
        | inr (other, (k, lt, is), there, number) ↦
            inr (other, (suc k, omega (arith, lt), is), there, number ∙ omega (arith, less))
      ]
    ]

pub is_greatest_beside : (place : ℕ) (terms : List Term) → IsGreatestBeside place terms (greatest_beside place terms)
is_greatest_beside place terms = record { most = most place (greatest_beside place terms) terms (omega arith); one = one place terms }

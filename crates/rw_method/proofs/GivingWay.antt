-- Which term gives way.
use Rattle.rw_method.proofs.Common.{All, All-append, All-push, Given, GivesWay, HasNoLowerPriority, HasHigherPriority, List, None, Option, Some, Term}
use Rattle.rw_method.proofs.Common.{[], ap}
use Rattle.rw_method.proofs.Common.{append-nil, append_assoc, arith, both_ways, cases_Bool, false, gives_way_before, inl, inr, refl, true, weakest}
use Rattle.rw_method.proofs.Common.{◌++◌, ◌∷◌, ◌≡◌}

-- ---- the order of terms

no_lower_trans : (a b c : Option Given) → HasNoLowerPriority a b → HasNoLowerPriority b c → HasNoLowerPriority a c
no_lower_trans a b None h k = _
no_lower_trans a None (Some c) h k = absurd k
no_lower_trans None (Some b) (Some c) h k = absurd h
no_lower_trans (Some a) (Some b) (Some c) h k = omega (arith, h, k)

-- one of a higher priority has no lower one
higher_no_lower : (a b : Option Given) → HasHigherPriority a b → HasNoLowerPriority a b
higher_no_lower a None h = _
higher_no_lower None (Some b) h = absurd h
higher_no_lower (Some a) (Some b) h = omega (arith, h)

-- the test: a later term has a higher priority, or else this one has no lower one
later_higher : (given later : Option Given) → gives_way_before given later ≡ true → HasHigherPriority later given
later_higher None None h = absurd (both_ways false refl h)
later_higher None (Some later) h = _
later_higher (Some held) None h = absurd (both_ways false refl h)
later_higher (Some held) (Some later) h = grind (arith, h)

no_lower_than_later : (given later : Option Given) → gives_way_before given later ≡ false → HasNoLowerPriority given later
no_lower_than_later given None h = _
no_lower_than_later None (Some later) h = absurd (both_ways true h refl)
no_lower_than_later (Some held) (Some later) h = grind (arith, h)

-- ---- as far as the terms were looked at

pub none_pass : (P : Term → Type 0) → All P []
none_pass P k d lt = absurd (omega (arith, lt))

pub and_pass : (P : Term → Type 0) (x : Term) (xs : List Term) → P x → All P xs → All P (x ∷ xs)
and_pass P x xs h all = All-append P (x ∷ []) xs (All-push P [] x (none_pass P) h) all

-- before the one that gave way so far come terms of no lower priority, after it those of a higher one; then come the rest
gives_way_of : (before : List Term) (term : Term) (after rest : List Term)
    → All (λ (other : Term). HasNoLowerPriority other.given term.given) before
    → All (λ (other : Term). HasHigherPriority other.given term.given) after
    → GivesWay (before ++ term ∷ (after ++ rest)) (weakest term rest)
gives_way_of before term after [] earlier later =
    record { before = before; after = after; among = ap (λ xs. before ++ term ∷ xs) (append-nil after); earlier = earlier; later = later }
gives_way_of before term after (next ∷ rest) earlier later = elim (cases_Bool (gives_way_before term.given next.given)) [
  | inl higher ↦
      let more = All-push (λ (other : Term). HasHigherPriority other.given term.given) after next later (later_higher term.given next.given higher) in
      rw higher (rw append_assoc at (gives_way_of before term (after ++ next ∷ []) rest earlier more))
  | inr lower ↦
      let no_lower = no_lower_than_later term.given next.given lower in
      let all = All-append (λ (other : Term). HasNoLowerPriority other.given next.given) before (term ∷ after)
      (λ k d lt. no_lower_trans _ term.given next.given (earlier k d lt) no_lower)
      (and_pass (λ (other : Term). HasNoLowerPriority other.given next.given) term after no_lower
      (λ k d lt. no_lower_trans _ term.given next.given (higher_no_lower _ term.given (later k d lt)) no_lower)) in
      rw lower
      (rw append_assoc at (gives_way_of (before ++ term ∷ after) next [] rest all
      (none_pass (λ (other : Term). HasHigherPriority other.given next.given))))
]

-- the term that gives way
pub gives_way : (first : Term) (rest : List Term) → GivesWay (first ∷ rest) (weakest first rest)
gives_way first rest =
    gives_way_of [] first [] rest (none_pass (λ (other : Term). HasNoLowerPriority other.given first.given))
    (none_pass (λ (other : Term). HasHigherPriority other.given first.given))

-- A solved term makes the balance true.
use Rattle.rw_method.proofs.Common.{All, All-append, Balanced, Bool, Brings, Conflicts, Conveys, Given, GivesWay, Holds, Idle, IsGreatestBeside}
use Rattle.rw_method.proofs.Common.{HasNoLowerPriority, IsShare, IsSolved, IsSome, HasHigherPriority, List, None, Option, Routes, Solves, Some, Takes}
use Rattle.rw_method.proofs.Common.{Term, [], ap}
use Rattle.rw_method.proofs.Common.{arith, both_ways, bringing, brought, brought_by, cases_Bool, false, if◌then◌else◌, inl, inr, int_eq, ints}
use Rattle.rw_method.proofs.Common.{is_some, missing, nat_le, neg_ℤ, net_of, pos, refl, rules, solved_balance, solved_at, solves, suc, true}
use Rattle.rw_method.proofs.Common.{value_from_others, weakest, ℕ, ℤ, ◌++◌, ◌+ℤ◌, ◌+◌, ◌-ℤ◌, ◌==◌, ◌∷◌, ◌≡◌, ◌≤◌}
use Rattle.rw_method.specs.declared.share.Share.{Share}
use Rattle.rw_method.proofs.LeastInflow.{conveyed, routed}
use Rattle.rw_method.proofs.GreatestBeside.{is_greatest_beside}
use Rattle.rw_method.proofs.GivingWay.{and_pass, none_pass, gives_way}

-- ---- sums over terms

net_of-append : (xs ys : List Term) → net_of (xs ++ ys) ≡ net_of xs +ℤ net_of ys
net_of-append [] ys = omega (arith, ints)
net_of-append (x ∷ xs) ys = omega (arith, ints, net_of-append xs ys)

missing-append : (xs ys : List Term) → missing (xs ++ ys) ≡ missing xs + missing ys
missing-append [] ys = omega arith
missing-append (x ∷ xs) ys = rw (missing-append xs ys) omega arith

-- ---- the terms but the one that gives way are given

given_first : (given : Option Given) (others : ℕ) → (if is_some given then 0 else 1) + others ≡ 0 → IsSome given × (others ≡ 0)
given_first None others h = absurd (omega (arith, h))
given_first (Some held) others h = (search rules, omega (arith, h))

none_missing : (xs : List Term) → missing xs ≡ 0 → All (λ (other : Term). IsSome other.given) xs
none_missing [] h = none_pass (λ (other : Term). IsSome other.given)
none_missing (x ∷ xs) h =
    let first = given_first x.given (missing xs) h in
    and_pass (λ (other : Term). IsSome other.given) x xs first.0 (none_missing xs first.1)

higher_given : (a b : Option Given) → HasHigherPriority a b → IsSome a
higher_given None b h = absurd h
higher_given (Some held) b h = search rules

pub no_lower_given : (a : Option Given) (held : Given) → HasNoLowerPriority a (Some held) → IsSome a
no_lower_given None held h = absurd h
no_lower_given (Some other) held h = search rules

earlier_given : (before after : List Term) (term : Term) (given : Option Given) → term.given ≡ given
    → missing (before ++ term ∷ after) ≤ 1 → All (λ (other : Term). HasNoLowerPriority other.given term.given) before
    → All (λ (other : Term). IsSome other.given) before
earlier_given before after term None is few earlier =
    let all = rw (missing-append before (term ∷ after), is) at few in
    none_missing before (omega (arith, all))
earlier_given before after term (Some held) is few earlier = λ k d lt. no_lower_given _ held (rw is at (earlier k d lt))

-- ---- the value

brought_bringing : (share : Share) (amount : ℤ) → IsShare share → brought share (bringing share amount) ≡ amount
brought_bringing Brings amount h = refl
brought_bringing Takes amount h = omega (arith, ints)
brought_bringing (Conveys seepage) amount h = conveyed seepage amount h
brought_bringing (Routes content release) amount h = routed content release amount h.0 h.1

balances : (steady : ℤ) (before after : List Term) (term : Term) → IsShare term.share
    → steady +ℤ (net_of before +ℤ brought term.share (value_from_others steady (before ++ term ∷ after) term) +ℤ net_of after) ≡ pos 0
balances steady before after term h =
    rw (brought_bringing term.share (neg_ℤ (steady +ℤ (net_of (before ++ term ∷ after) -ℤ brought_by term.share term.given))) h)
    omega (arith, ints, net_of-append before (term ∷ after))

-- ---- where a term is solved

abbrev is_solved : Balanced → Bool
is_solved (Solves place value number) = true
is_solved balanced = false

abbrev pub place_of : Balanced → ℕ
place_of (Solves place value number) = place
place_of balanced = 0

abbrev count_of : Balanced → ℕ
count_of (Solves place value number) = number
count_of balanced = 0

abbrev pub value_of : Balanced → ℤ
value_of (Solves place value number) = value
value_of balanced = pos 0

not_solved : (balanced : Balanced) (place number : ℕ) (value : ℤ) → balanced ≡ Solves place value number → is_solved balanced ≡ false → ⊥
not_solved balanced place number value is other = both_ways (is_solved balanced) other (ap is_solved is)

solves_at : (steady : ℤ) (terms : List Term) (term : Term) (given : Option Given) (place number : ℕ) (value : ℤ)
    → solved_at steady terms term given ≡ Solves place value number → solves steady terms term ≡ Solves place value number
solves_at steady terms term None place number value is = is
solves_at steady terms term (Some held) place number value is = elim (cases_Bool (int_eq (steady +ℤ net_of terms) (pos 0))) [
  | inl true_balance ↦ absurd (not_solved Holds place number value (rw true_balance at is) refl)
  | inr false_balance ↦ elim (cases_Bool (held.number == 0)) [
    | inl zero_number ↦
        absurd (not_solved (Conflicts term.place held.value (value_from_others steady terms term)) place number value
        (rw (false_balance, zero_number) at is) refl)
    | inr some_number ↦ rw (false_balance, some_number) at is
  ]
]

pub solves_of : (steady : ℤ) (first : Term) (rest : List Term) (place number : ℕ) (value : ℤ)
    → solved_balance (Some steady) (first ∷ rest) ≡ Solves place value number
    → (missing (first ∷ rest) ≤ 1) × (solves steady (first ∷ rest) (weakest first rest) ≡ Solves place value number)
solves_of steady first rest place number value is = elim (cases_Bool (nat_le 2 (missing (first ∷ rest)))) [
  | inl many ↦ absurd (not_solved Idle place number value (rw many at is) refl)
  | inr few ↦ (
    grind (arith, few),
    solves_at steady (first ∷ rest) (weakest first rest) (weakest first rest).given place number value (rw few at is),
  )
]

-- with the value from the others the balance is true
solved_here : (steady : ℤ) (terms : List Term) (term : Term) (place : ℕ) (value : ℤ) (way : GivesWay terms term) → IsShare term.share
    → term.place ≡ place → value_from_others steady terms term ≡ value
    → All (λ (other : Term). IsSome other.given) (way.before ++ way.after) → IsSolved steady terms place value
solved_here steady terms term place value way share there is given = record {
  term = term;
  there = there;
  way = way;
  given = given;
  balances = rw (← is, way.among) (balances steady way.before way.after term share);
}

passes_between : (P : Term → Type 0) (before after : List Term) (term : Term) → All P (before ++ term ∷ after) → P term
passes_between P [] after term all = all 0 term (omega arith)
passes_between P (x ∷ before) after term all = passes_between P before after term (λ k d lt. all (suc k) d (omega (arith, lt)))

pub solved_term : (steady : ℤ) (terms : List Term) (place number : ℕ) (value : ℤ) → All (λ (term : Term). IsShare term.share) terms
    → solved_balance (Some steady) terms ≡ Solves place value number → IsSolved steady terms place value
solved_term steady [] place number value shares is = absurd (not_solved Holds place number value is refl)
solved_term steady (first ∷ rest) place number value shares is =
    let way = gives_way first rest in
    let solved = solves_of steady first rest place number value is in
    let term = weakest first rest in
    let few : missing (way.before ++ term ∷ way.after) ≤ 1 = rw (← way.among) solved.0 in
    let shares_there : All (λ (other : Term). IsShare other.share) (way.before ++ term ∷ way.after) = rw (← way.among) shares in
    let others = All-append (λ (other : Term). IsSome other.given) way.before way.after
    (earlier_given way.before way.after term term.given refl few way.earlier)
    (λ k d lt. higher_given _ term.given (way.later k d lt)) in
    solved_here steady (first ∷ rest) term place value way
    (passes_between (λ (other : Term). IsShare other.share) way.before way.after term shares_there) (ap place_of solved.1)
    (ap value_of solved.1) others

pub number_of_solved : (steady : ℤ) (terms : List Term) (place number : ℕ) (value : ℤ)
    → solved_balance (Some steady) terms ≡ Solves place value number → IsGreatestBeside place terms number
number_of_solved steady [] place number value is = absurd (not_solved Holds place number value is refl)
number_of_solved steady (first ∷ rest) place number value is =
    let solved = solves_of steady first rest place number value is in
    rw (← ap place_of solved.1, ← ap count_of solved.1) (is_greatest_beside (weakest first rest).place (first ∷ rest))

-- The solved term is the one that isn't given, where all numbers are 0; so each other term is.
use Rattle.rw_order.proofs.Common.{Balanced, Bool, Conflicts, Given, Holds, Idle, IsSome, List, None, Option, Solves, Some, Term, View, [], ap, arith}
use Rattle.rw_order.proofs.Common.{both_ways, false, given, gives_way_before, held_by, if◌then◌else◌, inl, inr, int_eq, known, known_after, missing}
use Rattle.rw_order.proofs.Common.{nat_le, nat_tests, net_of, none-some, pos, recursion_from_All, refl, same_Some, solved_balance, solved_at}
use Rattle.rw_order.proofs.Common.{solved_term}
use Rattle.rw_order.proofs.Common.{solves, subst, sym, true, value_from_others, weakest, ℕ, ℤ, ◌++◌, ◌+ℤ◌, ◌==◌, ◌∙◌, ◌∷◌, ◌≡◌, ◌⊎◌}
use Rattle.rw_order.proofs.Lists.{all_left, all_right}
use Rattle.rw_order.proofs.Held.{AreZero, IsSeenOf, Sight, Values, given_known}
use Rattle.rw_order.proofs.Terms.{AreGiven, Comes, Parts, comes, term_in, terms_of}
use Rattle.rw_order.proofs.Within.{IsWithin, KeepAll, shares_of}

-- ---- with numbers of 0 no given term is solved

abbrev place_in : Balanced → Option ℕ
place_in (Solves place value number) = Some place
place_in balanced = None

record IsMissing (term : Term) (place : ℕ) : Type 0 where
  there : term.place ≡ place
  none : term.given ≡ None

if_place : (test : Bool) (a b : Balanced) (place : ℕ) → place_in a ≡ None → place_in (if test then a else b) ≡ Some place → place_in b ≡ Some place
if_place true a b place none e = absurd (none-some _ (sym none ∙ e))
if_place false a b place none e = e

missing_at : (steady : ℤ) (terms : List Term) (term : Term) (found : Option Given) (place : ℕ) → term.given ≡ found
    → ((held : Given) → found ≡ Some held → held.number ≡ 0) → place_in (solved_at steady terms term found) ≡ Some place → IsMissing term place
missing_at steady terms term None place is zero_number e = record { there = same_Some _ _ e; none = is }
missing_at steady terms term (Some held) place is zero_number e =
    let inner = if_place (int_eq (steady +ℤ net_of terms) (pos 0)) Holds _ place refl e in
    let here : (held.number == 0) ≡ true = grind (arith, nat_tests, zero_number held refl) in
    absurd (none-some _ (sym (ap (λ test. place_in
    (if test then Conflicts term.place held.value (value_from_others steady terms term) else solves steady terms term)) here) ∙ inner))

-- the term that gives way is given as its place is
abbrev IsOf : Sight → Term → Type 0
IsOf sight term = term.given ≡ sight term.place

of_either : (sight : Sight) (test : Bool) (a b : Term) → IsOf sight a → IsOf sight b → IsOf sight (if test then a else b)
of_either sight true a b x y = x
of_either sight false a b x y = y

weakest_of : (sight : Sight) (term : Term) (parts : Parts) → IsOf sight term → IsOf sight (weakest term (terms_of sight parts))
weakest_of sight term [] is = is
weakest_of sight term (part ∷ parts) is =
    weakest_of sight (if gives_way_before term.given (sight part.1) then term else term_in sight part) parts
    (of_either sight (gives_way_before term.given (sight part.1)) term (term_in sight part) is refl)

pub solves_missing : (sight : Sight) (parts : Parts) (steady : Option ℤ) (place number : ℕ) (value : ℤ) → AreZero sight
    → solved_balance steady (terms_of sight parts) ≡ Solves place value number → sight place ≡ None
solves_missing sight parts None place number value zeros is = absurd (none-some _ (ap place_in is))
solves_missing sight [] (Some steady) place number value zeros is = absurd (none-some _ (ap place_in is))
solves_missing sight (part ∷ parts) (Some steady) place number value zeros is =
    let first = term_in sight part in
    let rest = terms_of sight parts in
    let of : IsOf sight (weakest first rest) = weakest_of sight first parts refl in
    let at : IsMissing (weakest first rest) place =
    missing_at steady (first ∷ rest) (weakest first rest) (weakest first rest).given place refl
    (λ held e. zeros (weakest first rest).place held (sym of ∙ e))
    (if_place (nat_le 2 (missing (first ∷ rest))) Idle _ place refl (ap place_in is)) in
    ap sight (sym at.there) ∙ sym of ∙ at.none

-- ---- each other term is given

abbrev pub IsPart : ℕ → Parts → Type 0
IsPart place [] = ⊥
IsPart place (part ∷ parts) = (part.1 ≡ place) ⊎ IsPart place parts

part_given : (sight : Sight) (parts : Parts) (place : ℕ) → AreGiven (terms_of sight parts) → IsPart place parts → IsSome (sight place)
part_given sight [] place all is = absurd is
part_given sight (part ∷ parts) place all (inl here) = subst (λ p. IsSome (sight p)) here all.0
part_given sight (part ∷ parts) place all (inr later) = part_given sight parts place all.1 later

given_or_solved : (sight : Sight) (parts : Parts) (before : List Term) (term : Term) (after : List Term) (place : ℕ)
    → terms_of sight parts ≡ before ++ term ∷ after
    → AreGiven before → AreGiven after → IsPart place parts → IsSome (sight place) ⊎ (term.place ≡ place)
given_or_solved sight [] before term after place among given_before given_after is = absurd is
given_or_solved sight (part ∷ parts) [] term after place among given_before given_after (inl here) =
    let same : term_in sight part ≡ term = cc in inr (sym (ap (λ (t : Term). t.place) same) ∙ here)
given_or_solved sight (part ∷ parts) [] term after place among given_before given_after (inr later) =
    let rest : after ≡ terms_of sight parts = cc in inl (part_given sight parts place (subst AreGiven rest given_after) later)
given_or_solved sight (part ∷ parts) (x ∷ before) term after place among given_before given_after (inl here) =
    let same : x ≡ term_in sight part = cc in
    inl (subst (λ p. IsSome (sight p)) here (subst (λ (t : Term). IsSome t.given) same given_before.0))
given_or_solved sight (part ∷ parts) (x ∷ before) term after place among given_before given_after (inr later) =
    let rest : terms_of sight parts ≡ before ++ term ∷ after = cc in
    given_or_solved sight parts before term after place rest given_before.1 given_after later

pub other_given : (sight : Sight) (parts : Parts) (steady : Option ℤ) (solved_place number : ℕ) (value : ℤ) (place : ℕ) → KeepAll parts
    → solved_balance steady (terms_of sight parts) ≡ Solves solved_place value number → IsPart place parts
    → IsSome (sight place) ⊎ (solved_place ≡ place)
other_given sight parts None solved_place number value place keep is part = absurd (none-some _ (ap place_in is))
other_given sight parts (Some steady) solved_place number value place keep is part =
    let found = solved_term steady (terms_of sight parts) solved_place number value (shares_of sight parts keep) is in
    let all = recursion_from_All (λ (term : Term). IsSome term.given) (found.way.before ++ found.way.after) found.given in
    elim (given_or_solved sight parts found.way.before found.term found.way.after place found.way.among
    (all_left (λ (term : Term). IsSome term.given) found.way.before found.way.after all)
    (all_right (λ (term : Term). IsSome term.given) found.way.before found.way.after all) part) [
      | inl some ↦ inl some
      | inr here ↦ inr (sym found.there ∙ here)
    ]

-- the balance came to nothing
abbrev pub is_idle : Balanced → Bool
is_idle Idle = true
is_idle balanced = false

-- where it holds each term is given
pub holds_given : (sight : Sight) (parts : Parts) (steady : Option ℤ) (place : ℕ) → IsPart place parts
    → solved_balance steady (terms_of sight parts) ≡ Holds
    → IsSome (sight place)
holds_given sight [] steady place part is = absurd part
holds_given sight (first ∷ rest) None place part is = absurd (both_ways true (ap is_idle is) refl)
holds_given sight (first ∷ rest) (Some steady) place part is =
    let all : Comes steady (terms_of sight (first ∷ rest)) Holds =
    subst (Comes steady (terms_of sight (first ∷ rest))) is (comes steady (term_in sight first) (terms_of sight rest)) in
    part_given sight (first ∷ rest) place all.0 part

-- ---- what stands in a place of a term once the balance is solved

given_after : (values : Values) (past : Option ℤ) (view : View) (place : ℕ) (found : Option Given) → IsSeenOf values past view
    → given view place ≡ found
    → IsSome found → values place ≡ Some (held_by (known view place)).value
given_after values past view place None seen is some = absurd (both_ways false refl some)
given_after values past view place (Some held) seen is some =
    let there = given_known view.own (known view place) held is in
    seen.now place there.is there.known_one ∙ ap (λ content. Some (held_by content).value) (sym there.known_one)

after_solved : (values : Values) (view : View) (solved_place number place : ℕ) (value : ℤ) (test : Bool) → (solved_place == place) ≡ test
    → values solved_place ≡ Some value → (test ≡ false → values place ≡ Some (held_by (known view place)).value)
    → values place ≡ Some (known_after view (Solves solved_place value number) place).value
after_solved values view solved_place number place value true same there other =
    let at : solved_place ≡ place = grind (arith, nat_tests, same) in rw same (subst (λ p. values p ≡ Some value) at there)
after_solved values view solved_place number place value false same there other = rw same (other refl)

module _ (values : Values) (past : Option ℤ) (view : View) (sight : Sight) (parts : Parts) (steady : Option ℤ) (place : ℕ) (keep : KeepAll parts)
    (seen : IsSeenOf values past view) (own : sight place ≡ given view place) (part : IsPart place parts) where
  pub stands_after : (balanced : Balanced) → solved_balance steady (terms_of sight parts) ≡ balanced → IsWithin values balanced
      → is_idle balanced ≡ false
      → values place ≡ Some (known_after view balanced place).value
  stands_after Idle is within some = absurd (both_ways true some refl)
  stands_after (Conflicts at was solves_as) is within some = absurd within
  stands_after Holds is within some =
      given_after values past view place (given view place) seen refl (subst IsSome own (holds_given sight parts steady place part is))
  stands_after (Solves solved_place value number) is within some =
      after_solved values view solved_place number place value (solved_place == place) refl within
      (λ apart. elim (other_given sight parts steady solved_place number value place keep is part) [
        | inl found ↦ given_after values past view place (given view place) seen refl (subst IsSome own found)
        | inr same ↦ absurd (both_ways (solved_place == place) apart (grind (arith, nat_tests, same)))
      ])

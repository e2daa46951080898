-- The terms of a balance, each of a share in a place, and what stands in these places all together.
use Rattle.rw_order.proofs.Common.{AllByRecursion, Balanced, Bifurcation, Bool, Brings, ByRule, Canal, Conflicts, Confluence, Conveys, Gage, Given}
use Rattle.rw_order.proofs.Common.{Holds, Idle, IsSome, Kind, List, None, Option, PowerReservoir, Reach, Request, Reservoir, RoutedReach, Row, Share}
use Rattle.rw_order.proofs.Common.{Solves, Some, Takes, Term, View, WaterUser, [], ap, ap₂, arith, balance_of, balanced_of, basis_of, both_ways}
use Rattle.rw_order.proofs.Common.{brought, brought_by, contents_by, false, given, gives_way_before, if◌then◌else◌, int_eq, ints, is_some, map}
use Rattle.rw_order.proofs.Common.{missing, nat_le, net_of, option_map, pos, refl, solved_balance, solved_at, solves, suc, known_sum, true}
use Rattle.rw_order.proofs.Common.{value_from_others, weakest, zero, ℕ, ℤ, ◌++◌, ◌+ℤ◌, ◌==◌, ◌∙◌, ◌∷◌, ◌≡◌}
use Rattle.rw_order.specs.Free.{is_free}
use Rattle.rw_order.proofs.Held.{Sight, Stands, Values}

abbrev pub Parts : Type 0
Parts = List (Share × ℕ)

abbrev pub term_in : Sight → Share × ℕ → Term
term_in sight part = record { place = part.1; share = part.0; given = sight part.1 }

abbrev pub terms_of : Sight → Parts → List Term
terms_of sight parts = map (term_in sight) parts

-- how much the values in these places bring, where there is one in each
abbrev pub brought_in : Values → Parts → Option ℤ
brought_in values [] = Some (pos 0)
brought_in values (part ∷ parts) = known_sum (option_map (brought part.0) (values part.1)) (brought_in values parts)

abbrev pub AreGiven : List Term → Type 0
AreGiven terms = AllByRecursion (λ (term : Term). IsSome term.given) terms

-- ---- the terms of each kind that is free

abbrev pub parts_of : Kind → Parts
parts_of Gage = (Brings, 0) ∷ (Takes, 1) ∷ []
parts_of Confluence = (Brings, 0) ∷ (Brings, 1) ∷ (Takes, 2) ∷ []
parts_of Bifurcation = (Brings, 0) ∷ (Takes, 1) ∷ (Takes, 2) ∷ []
parts_of (Reach zero history local_inflow diversion return_flow) = (Brings, 0) ∷ (Takes, 1) ∷ []
parts_of (Reach (suc lag) history local_inflow diversion return_flow) = (Takes, 1) ∷ []
parts_of (Reservoir initial_storage table local_inflow diversion return_flow evaporation max_release) = (Brings, 0) ∷ (Takes, 1) ∷ (Takes, 2) ∷ []
parts_of (WaterUser depletion Request) = (Takes, 1) ∷ []
parts_of (Canal seepage) = (Conveys seepage, 0) ∷ (Takes, 1) ∷ []
parts_of kind = []

-- a reservoir's contents are given by its storage or its elevation
abbrev pub store_sight : Option (List Row) → View → Sight
store_sight table view place = if place == 2 then contents_by table (basis_of (given view 2) (given view 3)) else given view place

abbrev pub sight_of : Kind → View → Sight
sight_of (Reservoir initial_storage table local_inflow diversion return_flow evaporation max_release) view = store_sight table view
sight_of kind view = given view

terms_are : (kind : Kind) (view : View) → is_free kind ≡ true → (balance_of kind view).terms ≡ terms_of (sight_of kind view) (parts_of kind)
terms_are (Reach zero history local_inflow diversion return_flow) view free = refl
terms_are (Reach (suc lag) history local_inflow diversion return_flow) view free = refl
terms_are (WaterUser depletion Request) view free = refl
terms_are (WaterUser depletion ByRule) view free = refl
terms_are (PowerReservoir initial_storage table max_release tailwater power) view free = absurd (both_ways false refl free)
terms_are (RoutedReach initial_content release) view free = absurd (both_ways false refl free)
terms_are kind view free = refl

pub balanced_is : (kind : Kind) (view : View) → is_free kind ≡ true
    → balanced_of kind view ≡ solved_balance (balance_of kind view).steady (terms_of (sight_of kind view) (parts_of kind))
balanced_is kind view free = ap (solved_balance (balance_of kind view).steady) (terms_are kind view free)

-- ---- the term that gives way is given where all are

chosen_given : (term next : Term) (a b : Option Given) → term.given ≡ a → next.given ≡ b
    → IsSome (if gives_way_before a b then term else next).given → IsSome term.given × IsSome next.given
chosen_given term next None None first second is = absurd (both_ways (is_some next.given) (ap is_some second) is)
chosen_given term next None (Some b) first second is = absurd (both_ways (is_some term.given) (ap is_some first) is)
chosen_given term next (Some a) None first second is = absurd (both_ways (is_some next.given) (ap is_some second) is)
chosen_given term next (Some a) (Some b) first second is = (ap is_some first, ap is_some second)

weakest_given : (term : Term) (terms : List Term) → IsSome (weakest term terms).given → AreGiven (term ∷ terms)
weakest_given term [] is = (is, tt)
weakest_given term (next ∷ terms) is =
    let rest = weakest_given (if gives_way_before term.given next.given then term else next) terms is in
    let both = chosen_given term next term.given next.given refl refl rest.0 in
    (both.0, (both.1, rest.1))

-- ---- what terms come to

abbrev pub Comes : ℤ → List Term → Balanced → Type 0
Comes steady terms Idle = nat_le 2 (missing terms) ≡ true
Comes steady terms Holds = AreGiven terms × (int_eq (steady +ℤ net_of terms) (pos 0) ≡ true)
Comes steady terms (Solves place value number) = nat_le 2 (missing terms) ≡ false
Comes steady terms (Conflicts place held solved) = AreGiven terms × (int_eq (steady +ℤ net_of terms) (pos 0) ≡ false)

comes_if : (steady : ℤ) (terms : List Term) (test : Bool) (a b : Balanced) → (test ≡ true → Comes steady terms a)
    → (test ≡ false → Comes steady terms b)
    → Comes steady terms (if test then a else b)
comes_if steady terms true a b x y = x refl
comes_if steady terms false a b x y = y refl

pub comes : (steady : ℤ) (first : Term) (rest : List Term) → Comes steady (first ∷ rest) (solved_balance (Some steady) (first ∷ rest))
comes steady first rest =
    comes_if steady (first ∷ rest) (nat_le 2 (missing (first ∷ rest))) Idle
    (solved_at steady (first ∷ rest) (weakest first rest) (weakest first rest).given) (λ many. many)
    (λ few. at (weakest first rest).given refl few)
  where
    at : (found : Option Given) → (weakest first rest).given ≡ found → nat_le 2 (missing (first ∷ rest)) ≡ false
        → Comes steady (first ∷ rest) (solved_at steady (first ∷ rest) (weakest first rest) found)
    at None is few = few
    at (Some held) is few =
        let all = weakest_given first rest (ap is_some is) in
        comes_if steady (first ∷ rest) (int_eq (steady +ℤ net_of (first ∷ rest)) (pos 0)) Holds _ (λ holds. (all, holds))
        (λ fails. comes_if steady (first ∷ rest) (held.number == 0)
        (Conflicts (weakest first rest).place held.value (value_from_others steady (first ∷ rest) (weakest first rest)))
        (solves steady (first ∷ rest) (weakest first rest)) (λ zero_number. (all, fails)) (λ some_number. few))

-- ---- how much is brought

part_stands : (values : Values) (sight : Sight) (share : Share) (place : ℕ) (found : Option Given) → Stands values sight
    → sight place ≡ found → IsSome found → option_map (brought share) (values place) ≡ Some (brought_by share found)
part_stands values sight share place None stands is some = absurd (both_ways false refl some)
part_stands values sight share place (Some held) stands is some = ap (option_map (brought share)) (stands place held is)

pub all_in : (values : Values) (sight : Sight) (parts : Parts) → Stands values sight → AreGiven (terms_of sight parts)
    → brought_in values parts ≡ Some (net_of (terms_of sight parts))
all_in values sight [] stands all = refl
all_in values sight (part ∷ parts) stands all =
    ap₂ known_sum (part_stands values sight part.0 part.1 (sight part.1) stands refl all.0) (all_in values sight parts stands all.1)

-- what the terms before and after bring, with a value of the one between
abbrev pub brought_with : List Term → Term → List Term → ℤ → ℤ
brought_with before term after value = net_of before +ℤ brought term.share value +ℤ net_of after

first_sum : (share : Share) (value : Option ℤ) (net : ℤ)
    → known_sum (option_map (brought share) value) (Some net) ≡ option_map (λ w. pos 0 +ℤ brought share w +ℤ net) value
first_sum share None net = refl
first_sum share (Some w) net = ap Some (omega (arith, ints))

more_sum : (share : Share) (value : Option ℤ) (more before after : ℤ)
    → known_sum (Some more) (option_map (λ w. before +ℤ brought share w +ℤ after) value)
    ≡ option_map (λ w. (more +ℤ before) +ℤ brought share w +ℤ after) value
more_sum share None more before after = refl
more_sum share (Some w) more before after = ap Some (omega (arith, ints))

pub but_one : (values : Values) (sight : Sight) (parts : Parts) (before : List Term) (term : Term) (after : List Term)
    → Stands values sight → terms_of sight parts ≡ before ++ term ∷ after → AreGiven before → AreGiven after
    → brought_in values parts ≡ option_map (brought_with before term after) (values term.place)
but_one values sight [] [] term after stands among given_before given_after = absurd (cc)
but_one values sight [] (x ∷ before) term after stands among given_before given_after = absurd (cc)
but_one values sight (part ∷ parts) [] term after stands among given_before given_after =
    let here : term_in sight part ≡ term = cc in
    let rest : terms_of sight parts ≡ after = cc in
    rw (← here, ← rest)
    (ap (known_sum (option_map (brought part.0) (values part.1))) (all_in values sight parts stands (rw rest given_after))
    ∙ first_sum part.0 (values part.1) (net_of (terms_of sight parts)))
but_one values sight (part ∷ parts) (x ∷ before) term after stands among given_before given_after =
    let here : term_in sight part ≡ x = cc in
    let rest : terms_of sight parts ≡ before ++ term ∷ after = cc in
    let some : IsSome (sight part.1) = rw (ap (λ (t : Term). t.given) here) given_before.0 in
    let first = part_stands values sight part.0 part.1 (sight part.1) stands refl some in
    rw (← here)
    (ap₂ known_sum first (but_one values sight parts before term after stands rest given_before.1 given_after)
    ∙ more_sum term.share (values term.place) (brought_by part.0 (sight part.1)) (net_of before) (net_of after))

-- What an object's slots are left as, whatever the kind: how its own puts keep it.
use Rattle.rw_method.proofs.Common.{AllByRecursion, Balanced, Basis, Bifurcation, Bool, ByRule, Canal, Conflicts, Confluence, Contains, DataObject}
use Rattle.rw_method.proofs.Common.{Elevation, Gage, Given, Holds, Idle, IsKind, IsStored, Kind, List, None, Nothing, Option, Plant, PowerReservoir}
use Rattle.rw_method.proofs.Common.{Put, Puts, Reach, Request, Reservoir, RoutedReach, Row, Solves, Some, Storage, Term, View, WaterUser, [], ap}
use Rattle.rw_method.proofs.Common.{are_both_zero, arith, asked_of, asked_put, balanced_of, basis_of, beside_basis, beside_given, content_before}
use Rattle.rw_method.proofs.Common.{content_put, elevation_of, energy_puts, evaporation_of, evaporation_put, false, flow_puts, given, head_of}
use Rattle.rw_method.proofs.Common.{held_after_puts, if◌then◌else◌, inl, inr, known_after, level_puts, nat_tests, plant, power_balance, power_flows}
use Rattle.rw_method.proofs.Common.{put, put_found, refl, release_puts, seepage_put, solve_of, solved_put, subst, suc, sym, true, user_puts}
use Rattle.rw_method.proofs.Common.{volume_of, zero, ℕ, ℤ, ◌++◌, ◌<◌, ◌==◌, ◌∙◌, ◌∷◌, ◌≡◌, ◌≢◌, ◌≤◌}
use Rattle.rw_method.specs.Left.{IsOutflowLeft, Left}
use Rattle.rw_method.specs.Passing.{IsAfterOwn, IsOwnFall}
use Rattle.rw_method.proofs.Answering.{Answered, answered}
use Rattle.rw_method.proofs.Leaving.{DispatchFacts, LeftBy, Solving, from_left, own_falls, own_left, to_left}
use Rattle.rw_method.proofs.Among.{Among, all_at, among}
use Rattle.rw_method.proofs.PlainKinds.{bifurcation_facts, canal_facts, confluence_facts, data_facts, gage_facts, lagged_facts, reach_facts}
use Rattle.rw_method.proofs.PlainKinds.{routed_facts, solved_at, user_facts}
use Rattle.rw_method.proofs.ReservoirFacts.{reservoir_facts}
use Rattle.rw_method.proofs.Terms.{Sort, shape_of}
use Rattle.rw_method.proofs.PowerFacts.{IsFlow, flows_are, outflow_left, power_facts}
use Rattle.rw_base.proofs.Lists.{all_append, weaker_all}

pub dispatch_facts : (kind : Kind) (view : View) (puts : List Put) → IsKind kind → Answered kind view puts → DispatchFacts kind view puts
dispatch_facts (DataObject slots) view puts sound is = data_facts view puts slots is
dispatch_facts Gage view puts sound is = gage_facts view puts is
dispatch_facts Confluence view puts sound is = confluence_facts view puts is
dispatch_facts Bifurcation view puts sound is = bifurcation_facts view puts is
dispatch_facts (Reach zero history local_inflow diversion return_flow) view puts sound is =
    reach_facts view puts history local_inflow diversion return_flow is
dispatch_facts (Reach (suc lag) history local_inflow diversion return_flow) view puts sound is =
    lagged_facts view puts lag history local_inflow diversion return_flow is
dispatch_facts (Reservoir initial_storage table local_inflow diversion return_flow evaporation max_release) view puts sound is =
    reservoir_facts initial_storage table local_inflow diversion return_flow evaporation max_release view puts sound is
dispatch_facts (WaterUser depletion supply) view puts sound is = user_facts view puts depletion supply is
dispatch_facts (Canal seepage) view puts sound is = canal_facts view puts seepage sound is
dispatch_facts (PowerReservoir initial_storage table max_release tailwater power) view puts sound is =
    power_facts initial_storage table max_release tailwater power view puts is
dispatch_facts (RoutedReach initial_content release) view puts sound is = routed_facts view puts initial_content release sound.some sound.most is

-- ---- puts stand in different places

abbrev ApartFrom : ℕ → List Put → Type 0
ApartFrom place puts = AllByRecursion (λ (put : Put). place ≢ put.place) puts

abbrev AreApart : List Put → Type 0
AreApart [] = Unit {0}
AreApart (put ∷ puts) = ApartFrom put.place puts × AreApart puts

abbrev AllApart : List Put → List Put → Type 0
AllApart xs ys = AllByRecursion (λ (put : Put). ApartFrom put.place ys) xs

apart_both : (xs ys : List Put) → AreApart xs → AreApart ys → AllApart xs ys → AreApart (xs ++ ys)
apart_both [] ys a b c = b
apart_both (x ∷ xs) ys a b c = (all_append (λ (put : Put). x.place ≢ put.place) xs ys a.0 c.0, apart_both xs ys a.1 b c.1)

once_of : (puts : List Put) (one other : Put) → AreApart puts → Among puts one → Among puts other → one.place ≡ other.place → one ≡ other
once_of [] one other apart has there same = absurd has
once_of (x ∷ xs) one other apart (inl is) (inl also) same = sym is ∙ also
once_of (x ∷ xs) one other apart (inl is) (inr later) same =
    absurd (all_at (λ (put : Put). x.place ≢ put.place) xs other apart.0 later (ap (λ (p : Put). p.place) is ∙ same))
once_of (x ∷ xs) one other apart (inr later) (inl is) same =
    absurd (all_at (λ (put : Put). x.place ≢ put.place) xs one apart.0 later (ap (λ (p : Put). p.place) is ∙ sym same))
once_of (x ∷ xs) one other apart (inr later) (inr also) same = once_of xs one other apart.1 later also same

-- places up to a number, and places from a number on
abbrev pub AreUpTo : ℕ → List Put → Type 0
AreUpTo most puts = AllByRecursion (λ (put : Put). put.place ≤ most) puts

abbrev pub AreFrom : ℕ → List Put → Type 0
AreFrom least puts = AllByRecursion (λ (put : Put). least < put.place) puts

up_apart : (most : ℕ) (xs ys : List Put) → AreUpTo most xs → AreFrom most ys → AllApart xs ys
up_apart most xs ys few far =
    weaker_all (λ (x : Put). x.place ≤ most) (λ (x : Put). ApartFrom x.place ys) xs
    (λ x low. weaker_all (λ (y : Put). most < y.place) (λ (y : Put). x.place ≢ y.place) ys (λ y high same. omega (arith, low, high, same)) far) few

solved_alone_apart : (balanced : Balanced) → AreApart (solved_put balanced)
solved_alone_apart (Solves place value number) = (tt, tt)
solved_alone_apart balanced = tt

abbrev pub SolvesUpTo : ℕ → Balanced → Type 0
SolvesUpTo most (Solves place value number) = place ≤ most
SolvesUpTo most any = Unit {0}

pub solved_up_to : (most : ℕ) (balanced : Balanced) → SolvesUpTo most balanced → AreUpTo most (solved_put balanced)
solved_up_to most (Solves place value number) few = (few, tt)
solved_up_to most balanced few = tt

low_of : (kind : Kind) (view : View) (most : ℕ) → ((solving : Solving kind view) → solving.place ≤ most) → (balanced : Balanced)
    → balanced_of kind view ≡ balanced → SolvesUpTo most balanced
low_of kind view most low (Solves place value number) is = low (record { place = place; value = value; number = number; is = is })
low_of kind view most low balanced is = tt

pub low_solving : (kind : Kind) (view : View) (puts : List Put) (most : ℕ) → AllByRecursion (λ (s : Sort). s.place ≤ most) (shape_of kind)
    → IsKind kind → Answered kind view puts
    → SolvesUpTo most (balanced_of kind view)
low_solving kind view puts most all sound is =
    low_of kind view most (λ solving.
    let at =
    solved_at kind view puts (dispatch_facts kind view puts sound is).shares is solving in
    subst (λ p. p ≤ most) at.there (all_at (λ (s : Sort). s.place ≤ most) (shape_of kind) at.at all at.has)) (balanced_of kind view) refl

-- ---- a reservoir's

abbrev Each : ℕ → (Put → Type 0) → Type 0
Each place P = (value : ℤ) (number : ℕ) → P (record { place = place; value = value; number = number })

found_cases : (P : List Put → Type 0) (place : ℕ) (found : Option ℤ) (number : ℕ) → P []
    → ((value : ℤ) → P (record { place = place; value = value; number = number } ∷ [])) → P (put_found place found number)
found_cases P place None number none one = none
found_cases P place (Some read) number none one = one read

module _ (table : Option (List Row)) (storage elevation : Option Given) where
  given_cases : (P : List Put → Type 0) → P [] → Each 2 (λ put. P (put ∷ [])) → Each 3 (λ put. P (put ∷ [])) → (test : Bool)
      → P (if test then [] else beside_basis table (basis_of storage elevation))
  given_cases P none two three true = none
  given_cases P none two three false = by (basis_of storage elevation)
    where
      by : (basis : Basis) → P (beside_basis table basis)
      by Nothing = none
      by (Storage held) = found_cases P 3 (elevation_of table held.value) held.number none (λ value. three value held.number)
      by (Elevation held) = found_cases P 2 (volume_of table held.value) held.number none (λ value. two value held.number)

  -- beside what was solved nothing is put, or one of storage and elevation
  level_cases : (P : List Put → Type 0) → P [] → Each 2 (λ put. P (put ∷ [])) → Each 3 (λ put. P (put ∷ [])) → (balanced : Balanced)
      → P (level_puts table storage elevation balanced)
  level_cases P none two three (Solves place value number) = by (place == 2)
    where
      by : (test : Bool) → P (if test then put_found 3 (elevation_of table value) number else beside_given table storage elevation)
      by true = found_cases P 3 (elevation_of table value) number none (λ read. three read number)
      by false = given_cases P none two three (are_both_zero storage elevation)
  level_cases P none two three balanced = given_cases P none two three (are_both_zero storage elevation)

  level_up : (balanced : Balanced) → AreUpTo 3 (level_puts table storage elevation balanced)
  level_up = level_cases (AreUpTo 3) tt (λ value number. (omega arith, tt)) (λ value number. (omega arith, tt))

  level_from : (balanced : Balanced) → AreFrom 1 (level_puts table storage elevation balanced)
  level_from = level_cases (AreFrom 1) tt (λ value number. (omega arith, tt)) (λ value number. (omega arith, tt))

  level_alone : (balanced : Balanced) → AreApart (level_puts table storage elevation balanced)
  level_alone = level_cases AreApart tt (λ value number. (tt, tt)) (λ value number. (tt, tt))

  level_apart : (balanced : Balanced) → SolvesUpTo 2 balanced → AllApart (solved_put balanced) (level_puts table storage elevation balanced)
  level_apart (Solves place value number) few = (by (place == 2) refl, tt)
    where
      by : (test : Bool) → (place == 2) ≡ test
          → ApartFrom place (if test then put_found 3 (elevation_of table value) number else beside_given table storage elevation)
      by true is = found_cases (ApartFrom place) 3 (elevation_of table value) number tt (λ read. ((λ same. omega (arith, same, few)), tt))
      by false is =
          given_cases (ApartFrom place) tt (λ read number. ((λ same. absurd (grind (arith, nat_tests, is, same))), tt))
          (λ read number. ((λ same. omega (arith, same, few)), tt)) (are_both_zero storage elevation)
  level_apart balanced few = tt

evaporation_between : (chosen : Bool) (amount : Option ℤ)
    → AreFrom 3 (evaporation_put chosen amount) × (AreUpTo 8 (evaporation_put chosen amount) × AreApart (evaporation_put chosen amount))
evaporation_between true amount = ((omega arith, tt), ((omega arith, tt), (tt, tt)))
evaporation_between false amount = (tt, (tt, tt))

release_between : (most : Option ℤ) (outflow : Given) → AreFrom 8 (release_puts most outflow) × AreApart (release_puts most outflow)
release_between None outflow = (tt, tt)
release_between (Some most) outflow = ((omega arith, (omega arith, tt)), ((λ same. omega (arith, same), tt), (tt, tt)))

more_up : (most more : ℕ) (xs : List Put) → most ≤ more → AreUpTo most xs → AreUpTo more xs
more_up most more xs le few =
    weaker_all (λ (put : Put). put.place ≤ most) (λ (put : Put). put.place ≤ more) xs (λ put low. omega (arith, low, le)) few

reservoir_apart : (initial_storage : ℤ) (table : Option (List Row)) (local_inflow diversion return_flow evaporation : Bool) (max_release : Option ℤ)
    (view : View) (puts : List Put)
    → IsStored initial_storage table evaporation max_release
    → Answered (Reservoir initial_storage table local_inflow diversion return_flow evaporation max_release) view puts → AreApart puts
reservoir_apart initial_storage table local_inflow diversion return_flow evaporation max_release view puts sound is =
    let kind : Kind = Reservoir initial_storage table local_inflow diversion return_flow evaporation max_release in
    let b = balanced_of kind view in
    let low = low_solving kind view puts 2 (omega arith, (omega arith, (omega arith, tt))) sound is in
    let first : List Put = solved_put b in
    let second : List Put = level_puts table (given view 2) (given view 3) b in
    let third : List Put = evaporation_put evaporation (evaporation_of evaporation table view) in
    let fourth : List Put = release_puts max_release (known_after view b 1) in
    let e = evaporation_between evaporation (evaporation_of evaporation table view) in
    let r = release_between max_release (known_after view b 1) in
    let two_up : AreUpTo 3 (first ++ second) =
    all_append (λ (put : Put). put.place ≤ 3) first second (more_up 2 3 first (omega arith) (solved_up_to 2 b low))
    (level_up table (given view 2) (given view 3) b) in
    let two : AreApart (first ++ second) =
    apart_both first second (solved_alone_apart b) (level_alone table (given view 2) (given view 3) b)
    (level_apart table (given view 2) (given view 3) b low) in
    let three : AreApart ((first ++ second) ++ third) =
    apart_both (first ++ second) third two e.1.1 (up_apart 3 (first ++ second) third two_up e.0) in
    let three_up : AreUpTo 8 ((first ++ second) ++ third) =
    all_append (λ (put : Put). put.place ≤ 8) (first ++ second) third (more_up 3 8 (first ++ second) (omega arith) two_up) e.1.0 in
    subst AreApart is.same (apart_both ((first ++ second) ++ third) fourth three r.1 (up_apart 8 ((first ++ second) ++ third) fourth three_up r.0))

-- ---- a power reservoir's

flows_apart : (asking : Option Given) (terms : List Term) (balanced : Balanced) → AreApart (flow_puts asking terms balanced)
flows_apart None terms balanced = solved_alone_apart balanced
flows_apart (Some by) terms Idle = (tt, tt)
flows_apart (Some by) terms Holds = (tt, tt)
flows_apart (Some by) terms (Conflicts place held found) = (tt, tt)
flows_apart (Some by) terms (Solves place value number) = by_place (place == 1) (place == 0) refl
  where
    b : Balanced
    b = Solves place value number

    by_place : (out in_ : Bool) → (place == 1) ≡ out
        → AreApart (if out then put place value number
        ∷ [] else (if in_ then put place value number ∷ asked_put terms b by ∷ [] else asked_put terms b by ∷ put place value number ∷ []))
    by_place true in_ here = (tt, tt)
    by_place false true far = (((λ same. absurd (grind (arith, nat_tests, far, same))), tt), (tt, tt))
    by_place false false far = (((λ same. absurd (grind (arith, nat_tests, far, same))), tt), (tt, tt))

power_apart : (initial_storage : ℤ) (table : List Row) (max_release tailwater : ℤ) (power : ℕ) (view : View) (puts : List Put)
    → IsKind (PowerReservoir initial_storage table max_release tailwater power)
    → Answered (PowerReservoir initial_storage table max_release tailwater power) view puts → AreApart puts
power_apart initial_storage table max_release tailwater power view puts sound is =
    let kind : Kind = PowerReservoir initial_storage table max_release tailwater power in
    let of : Plant = plant table max_release tailwater power in
    let b = balanced_of kind view in
    let terms : List Term = (power_balance of view).terms in
    let low = low_solving kind view puts 2 (omega arith, (omega arith, (omega arith, tt))) sound is in
    let first : List Put = power_flows of view b in
    let second : List Put = level_puts (Some table) (given view 2) (given view 3) b in
    let third : List Put = energy_puts of (head_of of view) (held_after_puts view first 1) in
    let are = flows_are (asked_of of view) terms b in
    let first_up : AreUpTo 3 first =
    weaker_all (IsFlow (asked_of of view) terms b) (λ (put : Put). put.place ≤ 3) first (λ put flow. few put flow low) are in
    let beside : AllApart first second = weaker_all (IsFlow (asked_of of view) terms b) (λ (put : Put). ApartFrom put.place second) first
    (λ put flow. far second put flow (level_apart (Some table) (given view 2) (given view 3) b low)
    (level_from (Some table) (given view 2) (given view 3) b)) are in
    let two : AreApart (first ++ second) =
    apart_both first second (flows_apart (asked_of of view) terms b) (level_alone (Some table) (given view 2) (given view 3) b) beside in
    let two_up : AreUpTo 3 (first ++ second) =
    all_append (λ (put : Put). put.place ≤ 3) first second first_up (level_up (Some table) (given view 2) (given view 3) b) in
    subst AreApart is.same (apart_both (first ++ second) third two
    (((λ same. omega (arith, same)), ((λ same. omega (arith, same)), tt)), (((λ same. omega (arith, same)), tt), (tt, tt)))
    (up_apart 3 (first ++ second) third two_up (omega arith, (omega arith, (omega arith, tt)))))
  where
    few : {asking : Option Given} {terms : List Term} {b : Balanced} (put : Put) → IsFlow asking terms b put → SolvesUpTo 2 b → put.place ≤ 3
    few put (inl solves) low = let most : put.place ≤ 2 = subst (SolvesUpTo 2) solves low in omega (arith, most)
    few put (inr asks) low = let at : put.place ≡ 1 = ap (λ (p : Put). p.place) asks.same in omega (arith, at)

    far : {asking : Option Given} {terms : List Term} {b : Balanced} (level : List Put) (put : Put) → IsFlow asking terms b put
        → AllApart (solved_put b) level → AreFrom 1 level → ApartFrom put.place level
    far level put (inl solves) apart high = (subst (λ balanced. AllApart (solved_put balanced) level) solves apart).0
    far level put (inr asks) apart high =
        let at : put.place ≡ 1 = ap (λ (p : Put). p.place) asks.same in
        weaker_all (λ (other : Put). 1 < other.place) (λ (other : Put). put.place ≢ other.place) level
        (λ other above same. omega (arith, above, at, same)) high

pub apart_puts : (kind : Kind) (view : View) (puts : List Put) → IsKind kind → Answered kind view puts → AreApart puts
apart_puts (DataObject slots) view puts sound is = subst AreApart is.same (solved_alone_apart (balanced_of (DataObject slots) view))
apart_puts Gage view puts sound is = subst AreApart is.same (solved_alone_apart (balanced_of Gage view))
apart_puts Confluence view puts sound is = subst AreApart is.same (solved_alone_apart (balanced_of Confluence view))
apart_puts Bifurcation view puts sound is = subst AreApart is.same (solved_alone_apart (balanced_of Bifurcation view))
apart_puts (Reach zero history local_inflow diversion return_flow) view puts sound is =
    subst AreApart is.same (solved_alone_apart (balanced_of (Reach zero history local_inflow diversion return_flow) view))
apart_puts (Reach (suc lag) history local_inflow diversion return_flow) view puts sound is =
    subst AreApart is.same (solved_alone_apart (balanced_of (Reach (suc lag) history local_inflow diversion return_flow) view))
apart_puts (Reservoir initial_storage table local_inflow diversion return_flow evaporation max_release) view puts sound is =
    reservoir_apart initial_storage table local_inflow diversion return_flow evaporation max_release view puts sound is
apart_puts (WaterUser depletion Request) view puts sound is =
    let b = balanced_of (WaterUser depletion Request) view in
    subst AreApart is.same (apart_both (solved_put b) (user_puts depletion (known_after view b 1)) (solved_alone_apart b)
    ((λ same. omega (arith, same), tt), (tt, tt))
    (up_apart 1 (solved_put b) (user_puts depletion (known_after view b 1))
    (solved_up_to 1 b (low_solving (WaterUser depletion Request) view puts 1 (omega arith, tt) sound is)) (omega arith, (omega arith, tt))))
apart_puts (WaterUser depletion ByRule) view puts sound is =
    let b = balanced_of (WaterUser depletion ByRule) view in
    subst AreApart is.same (apart_both (solved_put b) (user_puts depletion (known_after view b 1)) (solved_alone_apart b)
    ((λ same. omega (arith, same), tt), (tt, tt))
    (up_apart 1 (solved_put b) (user_puts depletion (known_after view b 1))
    (solved_up_to 1 b (low_solving (WaterUser depletion ByRule) view puts 1 tt sound is)) (omega arith, (omega arith, tt))))
apart_puts (Canal seepage) view puts sound is =
    let b = balanced_of (Canal seepage) view in
    subst AreApart is.same (apart_both (solved_put b) (seepage_put (known_after view b 0) (known_after view b 1)) (solved_alone_apart b) (tt, tt)
    (up_apart 1 (solved_put b) (seepage_put (known_after view b 0) (known_after view b 1))
    (solved_up_to 1 b (low_solving (Canal seepage) view puts 1 (omega arith, (omega arith, tt)) sound is)) (omega arith, tt)))
apart_puts (PowerReservoir initial_storage table max_release tailwater power) view puts sound is =
    power_apart initial_storage table max_release tailwater power view puts sound is
apart_puts (RoutedReach initial_content release) view puts sound is =
    let kind : Kind = RoutedReach initial_content release in
    let b = balanced_of kind view in
    let left : List Put = content_put (content_before view) (known_after view b 0) (known_after view b 1) in
    subst AreApart is.same (apart_both (solved_put b) left (solved_alone_apart b) (tt, tt)
    (up_apart 1 (solved_put b) left (solved_up_to 1 b (low_solving kind view puts 1 (omega arith, (omega arith, tt)) sound is)) (omega arith, tt)))

-- ---- for any kind

pub own_puts_fall : (kind : Kind) (view : View) (puts : List Put) → IsKind kind → Left kind view → solve_of kind view ≡ Puts puts
    → AllByRecursion (IsOwnFall view) puts
own_puts_fall kind view puts sound left answers =
    let is = answered kind view puts answers in own_falls kind view puts (dispatch_facts kind view puts sound is) (from_left kind view left)

pub puts_are_apart : (kind : Kind) (view : View) (puts : List Put) → IsKind kind → solve_of kind view ≡ Puts puts
    → (one other : Put) → Contains puts one → Contains puts other → one.place ≡ other.place → one ≡ other
puts_are_apart kind view puts sound answers one other has there same =
    once_of puts one other (apart_puts kind view puts sound (answered kind view puts answers)) (among puts one has) (among puts other there) same

outflow_kept : (kind : Kind) (old new : View) (puts : List Put) → Answered kind old puts → LeftBy kind old → IsAfterOwn old new puts
    → IsOutflowLeft kind new
outflow_kept (PowerReservoir initial_storage table max_release tailwater power) old new puts is left after =
    outflow_left initial_storage table max_release tailwater power old puts is new after left
outflow_kept kind old new puts is left after = tt

pub left_by_own : (kind : Kind) (old new : View) (puts : List Put) → IsKind kind → Left kind old → solve_of kind old ≡ Puts puts
    → IsAfterOwn old new puts → Left kind new
left_by_own kind old new puts sound left answers after =
    let is = answered kind old puts answers in
    let was = from_left kind old left in
    to_left kind new (own_left kind old puts (dispatch_facts kind old puts sound is) was new after (outflow_kept kind old new puts is was after))

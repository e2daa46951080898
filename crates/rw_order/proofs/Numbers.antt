-- The numbers and the places of what is put, where all numbers are 0.
use Rattle.rw_order.proofs.Common.{AllByRecursion, Balanced, Bifurcation, Bool, ByRule, Canal, Conflicts, Confluence, Content, DataObject, Gage}
use Rattle.rw_order.proofs.Common.{Given, Holds, Idle, Kind, List, None, Option, PowerReservoir, Put, Puts, Reach, Request, Reservoir, RoutedReach}
use Rattle.rw_order.proofs.Common.{Row, Share, Solves, Some, Term, View, WaterUser, [], ap₂, are_both_zero, arith, balance_of, balanced_of, basis_of}
use Rattle.rw_order.proofs.Common.{beside_basis, beside_given, both_ways, elevation_of, evaporation_of, evaporation_put, false, given}
use Rattle.rw_order.proofs.Common.{gives_way_before, greatest_beside, held_by, if◌then◌else◌, int_eq, known, known_after, level_puts, max, missing}
use Rattle.rw_order.proofs.Common.{nat_le, nat_tests, net_of, priority_of, pos, put, put_found, puts_of, refl, release_puts, seepage_put}
use Rattle.rw_order.proofs.Common.{solved_balance}
use Rattle.rw_order.proofs.Common.{solved_at, solve_of, solved_put, solves, subst, suc, sym, true, unwrap_or, user_puts, value_from_others}
use Rattle.rw_order.proofs.Common.{volume_of, weakest, zero, ℕ, ℤ, ◌++◌, ◌+ℤ◌, ◌<◌, ◌==◌, ◌∙◌, ◌∷◌, ◌≡◌, ◌≤◌}
use Rattle.rw_order.specs.Free.{is_free}
use Rattle.rw_order.proofs.Held.{AreZero, Sight, given_known}
use Rattle.rw_order.proofs.Terms.{Parts, balanced_is, parts_of, sight_of, term_in, terms_of}
use Rattle.rw_order.proofs.Judged.{answered_puts}
use Rattle.rw_order.proofs.Levels.{Zero, basis_both, store_zero, zero_at}
use Rattle.rw_base.proofs.Lists.{all_append}

-- ---- puts that rise from one place to below another

abbrev pub Rise : ℕ → List Put → ℕ → Type 0
Rise low [] high = low ≤ high
Rise low (put ∷ puts) high = (low ≤ put.place) × Rise (suc put.place) puts high

rise_from : (a b : ℕ) (xs : List Put) (c : ℕ) → a ≤ b → Rise b xs c → Rise a xs c
rise_from a b [] c le rise = omega (arith, le, rise)
rise_from a b (x ∷ xs) c le rise = let first = rise.0 in (omega (arith, le, first), rise.1)

rise_both : (a b c : ℕ) (xs ys : List Put) → Rise a xs b → Rise b ys c → Rise a (xs ++ ys) c
rise_both a b c [] ys first second = rise_from a b ys c first second
rise_both a b c (x ∷ xs) ys first second = (first.0, rise_both (suc x.place) b c xs ys first.1 second)

-- ---- the solved term is one of the parts

abbrev PartsBelow : ℕ → Parts → Type 0
PartsBelow most parts = AllByRecursion (λ (part : Share × ℕ). part.1 < most) parts

either_below : (most : ℕ) (test : Bool) (a b : Term) → a.place < most → b.place < most → (if test then a else b).place < most
either_below most true a b x y = x
either_below most false a b x y = y

weakest_below : (most : ℕ) (sight : Sight) (term : Term) (parts : Parts) → term.place < most → PartsBelow most parts
    → (weakest term (terms_of sight parts)).place < most
weakest_below most sight term [] is rest = is
weakest_below most sight term (part ∷ parts) is rest =
    weakest_below most sight (if gives_way_before term.given (sight part.1) then term else term_in sight part) parts
    (either_below most (gives_way_before term.given (sight part.1)) term (term_in sight part) is rest.0) rest.1

-- the term that is solved stands below this place, with a number of 0
abbrev SolvesBelow : ℕ → Balanced → Type 0
SolvesBelow most (Solves place value number) = (place < most) × (number ≡ 0)
SolvesBelow most balanced = Unit {0}

solves_if : (most : ℕ) (test : Bool) (a b : Balanced) → SolvesBelow most a → SolvesBelow most b → SolvesBelow most (if test then a else b)
solves_if most true a b x y = x
solves_if most false a b x y = y

if_zero : (test : Bool) (number : ℕ) → number ≡ 0 → (if test then 0 else number) ≡ 0
if_zero true number is = refl
if_zero false number is = is

number_zero : (found : Option Given) → Zero found → priority_of found ≡ 0
number_zero None is = refl
number_zero (Some held) is = is

greatest_zero : (place : ℕ) (sight : Sight) (parts : Parts) → AreZero sight → greatest_beside place (terms_of sight parts) ≡ 0
greatest_zero place sight [] zeros = refl
greatest_zero place sight (part ∷ parts) zeros =
    ap₂ max (if_zero (part.1 == place) (priority_of (sight part.1)) (number_zero (sight part.1) (zero_at sight part.1 zeros)))
    (greatest_zero place sight parts zeros)

solved_below : (most : ℕ) (steady : ℤ) (terms : List Term) (term : Term) (found : Option Given) → term.place < most
    → greatest_beside term.place terms ≡ 0
    → SolvesBelow most (solved_at steady terms term found)
solved_below most steady terms term None near zero_number = (near, zero_number)
solved_below most steady terms term (Some held) near zero_number =
    solves_if most (int_eq (steady +ℤ net_of terms) (pos 0)) Holds _ tt
    (solves_if most (held.number == 0) (Conflicts term.place held.value (value_from_others steady terms term)) (solves steady terms term) tt
    (near, zero_number))

balance_below : (most : ℕ) (steady : Option ℤ) (sight : Sight) (parts : Parts) → AreZero sight → PartsBelow most parts
    → SolvesBelow most (solved_balance steady (terms_of sight parts))
balance_below most None sight parts zeros below = tt
balance_below most (Some steady) sight [] zeros below = tt
balance_below most (Some steady) sight (part ∷ parts) zeros below =
    let first = term_in sight part in
    let rest = terms_of sight parts in
    solves_if most (nat_le 2 (missing (first ∷ rest))) Idle _ tt
    (solved_below most steady (first ∷ rest) (weakest first rest) (weakest first rest).given (weakest_below most sight first parts below.0 below.1)
    (greatest_zero (weakest first rest).place sight (part ∷ parts) zeros))

-- ---- puts with numbers of 0, which rise from one place to below another

abbrev pub AllZero : List Put → Type 0
AllZero puts = AllByRecursion (λ (put : Put). put.number ≡ 0) puts

abbrev pub ArePlain : ℕ → List Put → ℕ → Type 0
ArePlain low puts high = AllZero puts × Rise low puts high

plain_both : (a b c : ℕ) (xs ys : List Put) → ArePlain a xs b → ArePlain b ys c → ArePlain a (xs ++ ys) c
plain_both a b c xs ys first second =
    (all_append (λ (put : Put). put.number ≡ 0) xs ys first.0 second.0, rise_both a b c xs ys first.1 second.1)

plain_if : (a c : ℕ) (test : Bool) (xs ys : List Put) → ArePlain a xs c → ArePlain a ys c → ArePlain a (if test then xs else ys) c
plain_if a c true xs ys x y = x
plain_if a c false xs ys x y = y

plain_found : (a place : ℕ) (value : Option ℤ) (number c : ℕ) → number ≡ 0 → a ≤ place → place < c → ArePlain a (put_found place value number) c
plain_found a place None number c zero_number le lt = (tt, omega (arith, le, lt))
plain_found a place (Some value) number c zero_number le lt = ((zero_number, tt), (le, lt))

solved_plain : (most high : ℕ) (balanced : Balanced) → most ≤ high → SolvesBelow most balanced → ArePlain 0 (solved_put balanced) high
solved_plain most high (Solves place value number) le is = let near = is.0 in ((is.1, tt), (omega arith, omega (arith, near, le)))
solved_plain most high balanced le is = (tt, omega arith)

-- ---- beside the solved term

beside_plain : (table : Option (List Row)) (storage elevation : Option Given) → Zero storage → Zero elevation
    → ArePlain 2 (beside_given table storage elevation) 4
beside_plain table storage elevation s e =
    plain_if 2 4 (are_both_zero storage elevation) [] (beside_basis table (basis_of storage elevation)) (tt, omega arith) (by storage elevation s e)
  where
    by : (storage elevation : Option Given) → Zero storage → Zero elevation → ArePlain 2 (beside_basis table (basis_of storage elevation)) 4
    by None None s e = (tt, omega arith)
    by (Some storage) None s e = plain_found 2 3 (elevation_of table storage.value) storage.number 4 s (omega arith) (omega arith)
    by None (Some elevation) s e = plain_found 2 2 (volume_of table elevation.value) elevation.number 4 e (omega arith) (omega arith)
    by (Some storage) (Some elevation) s e =
        subst (λ basis. ArePlain 2 (beside_basis table basis) 4) (sym (basis_both storage elevation s))
        (plain_found 2 3 (elevation_of table storage.value) storage.number 4 s (omega arith) (omega arith))

level_plain : (table : Option (List Row)) (storage elevation : Option Given) (balanced : Balanced) → Zero storage → Zero elevation
    → SolvesBelow 3 balanced
    → ArePlain 0 (solved_put balanced ++ level_puts table storage elevation balanced) 4
level_plain table storage elevation (Solves place value number) s e is =
    let rest = by (place == 2) refl in ((is.1, rest.0), (omega arith, rest.1))
  where
    by : (test : Bool) → (place == 2) ≡ test
        → ArePlain (suc place) (if test then put_found 3 (elevation_of table value) number else beside_given table storage elevation) 4
    by true same =
        let at : place ≡ 2 = grind (arith, nat_tests, same) in
        plain_found (suc place) 3 (elevation_of table value) number 4 is.1 (omega (arith, at)) (omega arith)
    by false other =
        let below = is.0 in
        let near : suc place ≤ 2 = grind (arith, nat_tests, other, below) in
        let beside_it = beside_plain table storage elevation s e in
        (beside_it.0, rise_from (suc place) 2 (beside_given table storage elevation) 4 near beside_it.1)
level_plain table storage elevation balanced s e is =
    let beside_it =
    beside_plain table storage elevation s e in (beside_it.0, rise_from 0 2 (beside_given table storage elevation) 4 (omega arith) beside_it.1)

release_plain : (most : Option ℤ) (outflow : Given) → outflow.number ≡ 0 → ArePlain 9 (release_puts most outflow) 12
release_plain None outflow is = (tt, omega arith)
release_plain (Some most) outflow is = ((is, (is, tt)), (omega arith, (omega arith, omega arith)))

-- ---- all that a kind puts

abbrev pub KnownZero : View → Type 0
KnownZero view = (place : ℕ) (content : Content) → known view place ≡ Some content → content.number ≡ 0

pub given_zero : (view : View) → KnownZero view → AreZero (given view)
given_zero view zeros place held is =
    let there = given_known view.own (known view place) held is in there.number ∙ zeros place there.is there.known_one

sight_zero : (kind : Kind) (view : View) → KnownZero view → AreZero (sight_of kind view)
sight_zero (Reservoir initial_storage table local_inflow diversion return_flow evaporation max_release) view zeros =
    store_zero table view (given_zero view zeros)
sight_zero kind view zeros = given_zero view zeros

held_zero : (content : Option Content) → ((c : Content) → content ≡ Some c → c.number ≡ 0) → (held_by content).number ≡ 0
held_zero None f = refl
held_zero (Some content) f = f content refl

after_zero : (most : ℕ) (view : View) (balanced : Balanced) (place : ℕ) → SolvesBelow most balanced → KnownZero view
    → (known_after view balanced place).number ≡ 0
after_zero most view (Solves solved_place value number) place is zeros = by (solved_place == place)
  where
    by : (test : Bool) → (if test then record { value = value; number = number } else held_by (known view place)).number ≡ 0
    by true = is.1
    by false = held_zero (known view place) (zeros place)
after_zero most view balanced place is zeros = held_zero (known view place) (zeros place)

module _ (kind : Kind) (view : View) (zeros : KnownZero view) (free : is_free kind ≡ true) where
  solves_below : (most : ℕ) → PartsBelow most (parts_of kind) → SolvesBelow most (balanced_of kind view)
  solves_below most below =
      subst (SolvesBelow most) (sym (balanced_is kind view free))
      (balance_below most (balance_of kind view).steady (sight_of kind view) (parts_of kind) (sight_zero kind view zeros) below)

  -- the solved term alone
  alone : PartsBelow 12 (parts_of kind) → ArePlain 0 (solved_put (balanced_of kind view)) 12
  alone below = solved_plain 12 12 (balanced_of kind view) (omega arith) (solves_below 12 below)

-- what a water user puts
user_plain : (depletion : ℕ) (kind : Kind) (view : View) → KnownZero view → is_free kind ≡ true → PartsBelow 2 (parts_of kind)
    → ArePlain 0 (solved_put (balanced_of kind view) ++ user_puts depletion (known_after view (balanced_of kind view) 1)) 12
user_plain depletion kind view zeros free below =
    let balanced = balanced_of kind view in
    let solved_one = solves_below kind view zeros free 2 below in
    let used : (known_after view balanced 1).number ≡ 0 = after_zero 2 view balanced 1 solved_one zeros in
    plain_both 0 2 12 (solved_put balanced) (user_puts depletion (known_after view balanced 1)) (solved_plain 2 2 balanced (omega arith) solved_one)
    ((used, (used, tt)), (omega arith, (omega arith, omega arith)))

puts_plain : (kind : Kind) (view : View) → KnownZero view → is_free kind ≡ true → ArePlain 0 (puts_of kind view (balanced_of kind view)) 12
puts_plain (DataObject slots) view zeros free = (tt, omega arith)
puts_plain Gage view zeros free = alone Gage view zeros free (omega arith, (omega arith, tt))
puts_plain Confluence view zeros free = alone Confluence view zeros free (omega arith, (omega arith, (omega arith, tt)))
puts_plain Bifurcation view zeros free = alone Bifurcation view zeros free (omega arith, (omega arith, (omega arith, tt)))
puts_plain (Reach zero history local_inflow diversion return_flow) view zeros free =
    alone (Reach zero history local_inflow diversion return_flow) view zeros free (omega arith, (omega arith, tt))
puts_plain (Reach (suc lag) history local_inflow diversion return_flow) view zeros free =
    alone (Reach (suc lag) history local_inflow diversion return_flow) view zeros free (omega arith, tt)
puts_plain (WaterUser depletion Request) view zeros free = user_plain depletion (WaterUser depletion Request) view zeros free (omega arith, tt)
puts_plain (WaterUser depletion ByRule) view zeros free = user_plain depletion (WaterUser depletion ByRule) view zeros free tt
puts_plain (Canal seepage) view zeros free =
    let kind : Kind = Canal seepage in
    let balanced = balanced_of kind view in
    let solved_one = solves_below kind view zeros free 2 (omega arith, (omega arith, tt)) in
    plain_both 0 2 12 (solved_put balanced) (seepage_put (known_after view balanced 0) (known_after view balanced 1))
    (solved_plain 2 2 balanced (omega arith) solved_one)
    ((after_zero 2 view balanced 0 solved_one zeros, tt), (omega arith, omega arith))
puts_plain (Reservoir initial_storage table local_inflow diversion return_flow evaporation max_release) view zeros free =
    let kind : Kind = Reservoir initial_storage table local_inflow diversion return_flow evaporation max_release in
    let balanced = balanced_of kind view in
    let solved_one = solves_below kind view zeros free 3 (omega arith, (omega arith, (omega arith, tt))) in
    let level = level_puts table (given view 2) (given view 3) balanced in
    let lost = evaporation_put evaporation (evaporation_of evaporation table view) in
    plain_both 0 9 12 ((solved_put balanced ++ level) ++ lost) (release_puts max_release (known_after view balanced 1))
    (plain_both 0 4 9 (solved_put balanced ++ level) lost
    (level_plain table (given view 2) (given view 3) balanced (zero_at (given view) 2 (given_zero view zeros))
    (zero_at (given view) 3 (given_zero view zeros)) solved_one)
    (plain_if 4 9 evaporation (put 8 (unwrap_or (evaporation_of evaporation table view) (pos 0)) 0 ∷ []) [] ((refl, tt), (omega arith, omega arith))
    (tt, omega arith)))
    (release_plain max_release (known_after view balanced 1) (after_zero 3 view balanced 1 solved_one zeros))
puts_plain (PowerReservoir initial_storage table max_release tailwater power) view zeros free = absurd (both_ways false refl free)
puts_plain (RoutedReach initial_content release) view zeros free = absurd (both_ways false refl free)

-- where all numbers are 0, those of the puts are, and their places rise
pub answers_plain : (kind : Kind) (view : View) (puts : List Put) → KnownZero view → is_free kind ≡ true → solve_of kind view ≡ Puts puts
    → ArePlain 0 puts 12
answers_plain kind view puts zeros free e = subst (λ xs. ArePlain 0 xs 12) (answered_puts kind view puts free e) (puts_plain kind view zeros free)

-- What the answer of a dispatch tells of its balance and its puts, and what makes one.
use Rattle.rw_order.proofs.Common.{AllByRecursion, AllFit, Balanced, Basis, Bool, Canal, Conflict, Conflicts, Elevation, Given, Holds, Idle}
use Rattle.rw_order.proofs.Common.{IdleAnswer, Kind, List, None, Nothing, Option, OutOfRange, PowerReservoir, Put, Puts, Reservoir, RoutedReach, Row}
use Rattle.rw_order.proofs.Common.{Solved, Solves, Some, Storage, View, WaterUser, [], agree, all_or_misfit, answer, answer_of_puts, answered, ap}
use Rattle.rw_order.proofs.Common.{append-nil, append_assoc, balanced_of, basis_of, both_ways, can_hold, disagreement, evaporation_of}
use Rattle.rw_order.proofs.Common.{evaporation_put, false, fault_of_basis, fault_of_contents, fault_of_past, first_fault, first_fits, first_misfit}
use Rattle.rw_order.proofs.Common.{fits, given, if◌then◌else◌, is_some, known_after, level_puts, none-some, not, or_else, put, puts_of, refl}
use Rattle.rw_order.proofs.Common.{release_puts, same_Some, seepage_put, solve_of, solved_put, subst, sym, true, unless_faulty, user_puts, volume_of}
use Rattle.rw_order.proofs.Common.{ℤ, ◌&&◌, ◌++◌, ◌==◌, ◌∙◌, ◌∷◌, ◌≡◌}
use Rattle.rw_order.specs.Free.{is_free}
use Rattle.rw_order.proofs.Lists.{all_left, all_right}
use Rattle.rw_order.proofs.Held.{AnswersWithin, AreHeld, FitsThere, Values}
use Rattle.rw_order.proofs.Within.{IsWithin, StandsIn}
use Rattle.rw_order.proofs.Missing.{is_idle}

-- ---- what is wrong with the contents is neither nothing nor puts

abbrev is_fault : Solved → Bool
is_fault (Conflict place held solves_as) = true
is_fault (OutOfRange place value) = true
is_fault answered = false

abbrev IsFaultOrNone : Option Solved → Type 0
IsFaultOrNone None = Unit {0}
IsFaultOrNone (Some found) = is_fault found ≡ true

fault_if : (test : Bool) (a b : Option Solved) → IsFaultOrNone a → IsFaultOrNone b → IsFaultOrNone (if test then a else b)
fault_if true a b x y = x
fault_if false a b x y = y

fault_or : (a b : Option Solved) → IsFaultOrNone a → IsFaultOrNone b → IsFaultOrNone (or_else a b)
fault_or None b x y = y
fault_or (Some found) b x y = x

past_fault : (evaporation : Bool) (table : Option (List Row)) (past : Option ℤ) → IsFaultOrNone (fault_of_past evaporation table past)
past_fault evaporation table None = tt
past_fault evaporation table (Some storage) = fault_if (evaporation && not (can_hold table storage)) (Some (OutOfRange 2 storage)) None refl tt

basis_fault : (table : Option (List Row)) (basis : Basis) → IsFaultOrNone (fault_of_basis table basis)
basis_fault table Nothing = tt
basis_fault table (Storage storage) = fault_if (can_hold table storage.value) None (Some (OutOfRange 2 storage.value)) tt refl
basis_fault table (Elevation elevation) = fault_if (is_some (volume_of table elevation.value)) None (Some (OutOfRange 3 elevation.value)) tt refl

disagreement_fault : (table : Option (List Row)) (storage elevation : Option Given) → IsFaultOrNone (disagreement table storage elevation)
disagreement_fault table None elevation = tt
disagreement_fault table (Some storage) None = tt
disagreement_fault table (Some storage) (Some elevation) =
    fault_if (storage.number == 0 && elevation.number == 0 && not (agree table storage.value elevation.value)) (Some (Conflict 3 elevation.value _))
    None refl tt

fault_of_kind : (kind : Kind) (view : View) → is_free kind ≡ true → IsFaultOrNone (fault_of_contents kind view)
fault_of_kind (Reservoir initial_storage table local_inflow diversion return_flow evaporation max_release) view free =
    fault_or _ _ (past_fault evaporation table view.past)
    (fault_or _ _ (basis_fault table (basis_of (given view 2) (given view 3))) (disagreement_fault table (given view 2) (given view 3)))
fault_of_kind (PowerReservoir initial_storage table max_release tailwater power) view free = absurd (both_ways false refl free)
fault_of_kind kind view free = tt

-- nothing is wrong before all else
pub plain_solve : (kind : Kind) (view : View) → is_free kind ≡ true
    → solve_of kind view ≡ answer (fits kind view) (puts_of kind view (balanced_of kind view)) (balanced_of kind view) (fault_of_contents kind view)
plain_solve kind view free =
    ap (λ fault. unless_faulty fault (answer (fits kind view) (puts_of kind view (balanced_of kind view)) (balanced_of kind view)
    (fault_of_contents kind view))) (none kind free)
  where
    none : (kind : Kind) → is_free kind ≡ true → first_fault kind view ≡ None
    none (PowerReservoir initial_storage table max_release tailwater power) free = absurd (both_ways false refl free)
    none kind free = refl

-- ---- what an answer tells

abbrev puts_in : Solved → Option (List Put)
puts_in (Puts puts) = Some puts
puts_in answered = None

-- the balance came to something, and nothing is wrong
abbrev IsBalanceMet : Balanced → Type 0
IsBalanceMet Holds = Unit {0}
IsBalanceMet (Solves place value number) = Unit {0}
IsBalanceMet balanced = ⊥

record IsJudged (fit : Put → Bool) (judging puts : List Put) (balanced : Balanced) (fault : Option Solved) : Type 0 where
  met_one : IsBalanceMet balanced
  fine : fault ≡ None
  same : judging ≡ puts
  fit_all : AllFit fit judging

record AreJudged (fit : Put → Bool) (judging puts : List Put) : Type 0 where
  same : judging ≡ puts
  fit_all : AllFit fit judging

judged_as : (fit : Put → Bool) (judging puts : List Put) (misfit : Option Put) → first_misfit fit judging ≡ misfit
    → all_or_misfit judging misfit ≡ Puts puts
    → AreJudged fit judging puts
judged_as fit judging puts None is e = record { same = same_Some _ _ (ap puts_in e); fit_all = is }
judged_as fit judging puts (Some misfit) is e = absurd (none-some _ (ap puts_in e))

judged_by : (fit : Put → Bool) (judging puts : List Put) (balanced : Balanced) (fault : Option Solved) → IsFaultOrNone fault
    → answer fit judging balanced fault ≡ Puts puts → IsJudged fit judging puts balanced fault
judged_by fit judging puts Idle fault faulty e = absurd (none-some _ (ap puts_in e))
judged_by fit judging puts balanced (Some found) faulty e = absurd (both_ways (is_fault found) (ap is_fault e) faulty)
judged_by fit judging puts (Conflicts place held solves_as) None faulty e = absurd (none-some _ (ap puts_in e))
judged_by fit judging puts balanced None faulty e =
    let judged = judged_as fit judging puts (first_misfit fit judging) refl e in
    record { met_one = tt; fine = refl; same = judged.same; fit_all = judged.fit_all }

abbrev is_idle_answer : Solved → Bool
is_idle_answer IdleAnswer = true
is_idle_answer answered = false

misfit_or_puts : (puts : List Put) (misfit : Option Put) → is_idle_answer (all_or_misfit puts misfit) ≡ false
misfit_or_puts puts None = refl
misfit_or_puts puts (Some put) = refl

-- where nothing is answered the balance came to nothing
pub idle_by : (kind : Kind) (view : View) → is_free kind ≡ true → solve_of kind view ≡ IdleAnswer → balanced_of kind view ≡ Idle
idle_by kind view free e =
    by (puts_of kind view (balanced_of kind view)) (balanced_of kind view) (fault_of_contents kind view) (fault_of_kind kind view free)
    (sym (plain_solve kind view free) ∙ e)
  where
    by : (puts : List Put) (balanced : Balanced) (fault : Option Solved) → IsFaultOrNone fault
        → answer (fits kind view) puts balanced fault ≡ IdleAnswer → balanced ≡ Idle
    by puts Idle fault faulty e = refl
    by puts balanced (Some found) faulty e = absurd (both_ways (is_fault found) (ap is_fault e) faulty)
    by puts (Conflicts place held solves_as) None faulty e = absurd (both_ways false refl (ap is_idle_answer e))
    by puts balanced None faulty e =
        absurd (both_ways (is_idle_answer (answer_of_puts (fits kind view) puts)) (misfit_or_puts puts (first_misfit (fits kind view) puts))
        (ap is_idle_answer e))

-- the puts of an answer are those of the kind
pub answered_puts : (kind : Kind) (view : View) (puts : List Put) → is_free kind ≡ true → solve_of kind view ≡ Puts puts
    → puts_of kind view (balanced_of kind view) ≡ puts
answered_puts kind view puts free e =
    (judged_by (fits kind view) (puts_of kind view (balanced_of kind view)) puts (balanced_of kind view) (fault_of_contents kind view)
    (fault_of_kind kind view free)
    (sym (plain_solve kind view free) ∙ e)).same

-- ---- what a kind puts beside the solved term

abbrev pub rest_of : Kind → View → Balanced → List Put
rest_of (Reservoir initial_storage table local_inflow diversion return_flow evaporation max_release) view balanced =
    level_puts table (given view 2) (given view 3) balanced
    ++ (evaporation_put evaporation (evaporation_of evaporation table view) ++ release_puts max_release (known_after view balanced 1))
rest_of (WaterUser depletion supply) view balanced = user_puts depletion (known_after view balanced 1)
rest_of (Canal seepage) view balanced = seepage_put (known_after view balanced 0) (known_after view balanced 1)
rest_of kind view balanced = []

four_lists : (a b c d : List Put) → ((a ++ b) ++ c) ++ d ≡ a ++ (b ++ (c ++ d))
four_lists a b c d = simp append_assoc refl

puts_are : (kind : Kind) (view : View) (balanced : Balanced) → is_free kind ≡ true
    → puts_of kind view balanced ≡ solved_put balanced ++ rest_of kind view balanced
puts_are (Reservoir initial_storage table local_inflow diversion return_flow evaporation max_release) view balanced free =
    four_lists (solved_put balanced) (level_puts table (given view 2) (given view 3) balanced)
    (evaporation_put evaporation (evaporation_of evaporation table view))
    (release_puts max_release (known_after view balanced 1))
puts_are (WaterUser depletion supply) view balanced free = refl
puts_are (Canal seepage) view balanced free = refl
puts_are (PowerReservoir initial_storage table max_release tailwater power) view balanced free = absurd (both_ways false refl free)
puts_are (RoutedReach initial_content release) view balanced free = absurd (both_ways false refl free)
puts_are kind view balanced free = sym (append-nil (solved_put balanced))

solve_is : (kind : Kind) (view : View) → is_free kind ≡ true → solve_of kind view
    ≡ answer (fits kind view) (solved_put (balanced_of kind view) ++ rest_of kind view (balanced_of kind view)) (balanced_of kind view)
    (fault_of_contents kind view)
solve_is kind view free =
    plain_solve kind view free ∙ ap (λ puts. answer (fits kind view) puts (balanced_of kind view) (fault_of_contents kind view))
    (puts_are kind view (balanced_of kind view) free)

-- ---- puts that stand there were answered

pub record Answered (kind : Kind) (values : Values) (view : View) : Type 0 where
  pub fine : fault_of_contents kind view ≡ None
  pub stands : StandsIn values (balanced_of kind view)
  pub held : AreHeld values (rest_of kind view (balanced_of kind view))
  pub fit_all : AllByRecursion (λ (put : Put). fits kind view put ≡ true)
      (solved_put (balanced_of kind view) ++ rest_of kind view (balanced_of kind view))

fit_each : (fit : Put → Bool) (puts : List Put) → AllFit fit puts → AllByRecursion (λ (put : Put). fit put ≡ true) puts
fit_each fit [] all = tt
fit_each fit (put ∷ puts) all = let both = first_fits fit put puts all in (both.0, fit_each fit puts both.1)

pub answered_of : (kind : Kind) (values : Values) (view : View) (puts : List Put) → is_free kind ≡ true → solve_of kind view ≡ Puts puts
    → AreHeld values puts → Answered kind values view
answered_of kind values view puts free e held = record {
  fine = judged.fine;
  stands =
      by (balanced_of kind view) judged.met_one
      (all_left (λ (put : Put). values put.place ≡ Some put.value) (solved_put (balanced_of kind view)) _ there);
  held =
      all_right (λ (put : Put). values put.place ≡ Some put.value) (solved_put (balanced_of kind view))
      (rest_of kind view (balanced_of kind view)) there;
  fit_all = fit_each (fits kind view) (solved_put (balanced_of kind view) ++ rest_of kind view (balanced_of kind view)) judged.fit_all;
}
  where
    judged : IsJudged (fits kind view) (solved_put (balanced_of kind view) ++ rest_of kind view (balanced_of kind view)) puts (balanced_of kind view)
        (fault_of_contents kind view)
    judged =
        judged_by (fits kind view) (solved_put (balanced_of kind view) ++ rest_of kind view (balanced_of kind view)) puts (balanced_of kind view)
        (fault_of_contents kind view)
        (fault_of_kind kind view free) (sym (solve_is kind view free) ∙ e)

    there : AreHeld values (solved_put (balanced_of kind view) ++ rest_of kind view (balanced_of kind view))
    there = subst (AreHeld values) (sym judged.same) held

    by : (balanced : Balanced) → IsBalanceMet balanced → AreHeld values (solved_put balanced) → StandsIn values balanced
    by Holds is solved_there = tt
    by (Solves place value number) is solved_there = solved_there.0
    by balanced is solved_there = absurd is

-- ---- what is answered stands there

held_fit : (values : Values) (fit : Put → Bool) (puts : List Put) → FitsThere values fit → AreHeld values puts → AllFit fit puts
held_fit values fit [] there held = refl
held_fit values fit (put ∷ puts) there held = rw (there put.place put.value put.number held.0) (held_fit values fit puts there held.1)

all_answered : (values : Values) (fit : Put → Bool) (puts : List Put) → FitsThere values fit → AreHeld values puts
    → AnswersWithin values (answer_of_puts fit puts)
all_answered values fit puts there held = rw (held_fit values fit puts there held) held

within_answer : (values : Values) (fit : Put → Bool) (balanced : Balanced) (rest : List Put) (fault : Option Solved) → FitsThere values fit
    → IsWithin values balanced
    → (is_idle balanced ≡ false → (fault ≡ None) × AreHeld values rest)
    → AnswersWithin values (answer fit (solved_put balanced ++ rest) balanced fault)
within_answer values fit Idle rest fault there is beside_it = tt
within_answer values fit (Conflicts place held solves_as) rest fault there is beside_it = absurd is
within_answer values fit Holds rest fault there is beside_it =
    let facts = beside_it refl in
    subst (λ f. AnswersWithin values (answer fit rest Holds f)) (sym facts.0) (all_answered values fit rest there facts.1)
within_answer values fit (Solves place value number) rest fault there is beside_it =
    let facts = beside_it refl in
    subst (λ f. AnswersWithin values (answer fit (put place value number ∷ rest) (Solves place value number) f)) (sym facts.0)
    (all_answered values fit (put place value number ∷ rest) there (is, facts.1))

pub answers_by : (kind : Kind) (values : Values) (view : View) → is_free kind ≡ true → FitsThere values (fits kind view)
    → IsWithin values (balanced_of kind view)
    → (is_idle (balanced_of kind view) ≡ false → (fault_of_contents kind view ≡ None) × AreHeld values (rest_of kind view (balanced_of kind view)))
    → AnswersWithin values (solve_of kind view)
answers_by kind values view free there is beside_it =
    subst (AnswersWithin values) (sym (solve_is kind view free))
    (within_answer values (fits kind view) (balanced_of kind view) (rest_of kind view (balanced_of kind view)) (fault_of_contents kind view) there
    is beside_it)

-- What is left of the last firing of each rule, and that each would do the same again where the timestep is closed.
use Rattle.rw_laws.proofs.Common.{AllByRecursion, Among, AreAlike, Asked, Bool, ByObject, Cell, Cells, Decides-int_eq, Denied, Draft, Event, Fire}
use Rattle.rw_laws.proofs.Common.{Firing, IsPolicyOf, Kept, List, Log, None, Option, Policy, PutEnd, Rule, Some, Writer, Written, [], all_among}
use Rattle.rw_laws.proofs.Common.{all_at, ap, arith, cells_of, end_in, false, first_due, inl, inr, is_changed, last_firing, last_ones, last_put}
use Rattle.rw_laws.proofs.Common.{looks_at, nat_tests, not, option_map, option_or, puts_written, refl, subst, sym, true, value_in, weaker_all}
use Rattle.rw_laws.proofs.Common.{written_by, ℕ, ℤ, ◌<◌, ◌==◌, ◌||◌, ◌∙◌, ◌∷◌, ◌≡◌, ◌≢◌, ◌≤◌, ◌⊎◌}
use Rattle.rw_run.specs.Next.{is_same_value}
use Rattle.rw_laws.specs.Rules.{AllStandBy, IsFiringOf, IsHeldOr, StandsBy}
use Rattle.rw_laws.proofs.Agenda.{none_due}
use Rattle.rw_laws.proofs.LastOnes.{IsAt, last_written, none_written}
use Rattle.rw_laws.proofs.Linked.{last_found, linked}
use Rattle.rw_laws.proofs.PutRules.{denied_known, end_code, kept_known}
use Rattle.rw_laws.proofs.Told.{AreTold, IsTold, IsWriting, to_all}
use Rattle.rw_laws.proofs.Writings.{IsRulePut, last_all}

-- the last firing of a rule
pub record IsLast (basin : Draft) (policy : Policy) (step : ℕ) (log : Log) (rule : ℕ) (firing : Firing) : Type 0 where
  pub fire : Fire
  pub before : Cells
  pub does : policy.fire rule step (value_in before) ≡ Some fire
  pub saw : firing.looked ≡ looks_at before fire.looked
  pub is : IsFiringOf basin rule step fire firing
  pub slots : AllByRecursion (IsAt basin) firing.asked
  pub puts : AllByRecursion (IsHeldOr (cells_of basin log) rule) (last_ones basin firing.asked)

abbrev pub FiredIn : Draft → Policy → ℕ → Log → Type 0
FiredIn basin policy step log = (rule : ℕ) (firing : Firing) → last_firing log rule ≡ Some firing → IsLast basin policy step log rule firing

-- ---- what another writes

abbrev pub IsNotOf : Draft → ℕ → Cells → ℕ → Asked → Type 0
IsNotOf basin latest cells rule put = IsWriting basin latest cells put × (put.content.writer ≢ Rule (record { 0 = rule }))

pub stands_on : (basin : Draft) (latest : ℕ) (log : Log) (event : Event) (rule : ℕ)
    → AllByRecursion (IsNotOf basin latest (cells_of basin log) rule) (written_by event)
    → (put : Asked) → IsHeldOr (cells_of basin log) rule put → IsHeldOr (cells_of basin (event ∷ log)) rule put
stands_on basin latest log event rule all put is =
    elim (last_found basin (IsNotOf basin latest (cells_of basin log) rule) (written_by event) put.cell all) [
      | inl none ↦ record {
        content = is.content;
        held = ap (λ found. option_or found (cells_of basin log put.cell)) none ∙ is.held;
        number = is.number;
        so = is.so;
      }
      | inr found ↦
          let falls : found.put.content.number ≤ is.content.number =
          found.passes.0.falls is.content (linked basin log found.put.cell put.cell found.passes.0.slot found.shared ∙ is.held) in
          let most = is.number in
          record {
            content = found.put.content;
            held = ap (λ z. option_or z (cells_of basin log put.cell)) found.is;
            number = omega (arith, falls, most);
            so = inr found.passes.1;
          }
    ]

pub fired_on : (basin : Draft) (policy : Policy) (latest step : ℕ) (log : Log) (event : Event) (rule : ℕ) (firing : Firing)
    → AllByRecursion (IsNotOf basin latest (cells_of basin log) rule) (written_by event)
    → IsLast basin policy step log rule firing → IsLast basin policy step (event ∷ log) rule firing
fired_on basin policy latest step log event rule firing all is = record {
  fire = is.fire;
  before = is.before;
  does = is.does;
  saw = is.saw;
  is = is.is;
  slots = is.slots;
  puts =
      weaker_all (IsHeldOr (cells_of basin log) rule) (IsHeldOr (cells_of basin (event ∷ log)) rule) (last_ones basin firing.asked)
      (stands_on basin latest log event rule all) is.puts;
}

abbrev is_object : Writer → Bool
is_object (ByObject object) = true
is_object any = false

pub object_no_rule : (writer : Writer) (object rule : ℕ) → writer ≡ ByObject (record { 0 = object }) → writer ≢ Rule (record { 0 = rule })
object_no_rule writer object rule is same = absurd (let no : true ≡ false = sym (ap is_object is) ∙ ap is_object same in cc)

abbrev rule_in : Writer → ℕ
rule_in (Rule rule) = rule.0
rule_in any = 0

pub other_rule : (writer : Writer) (one other : ℕ) → writer ≡ Rule (record { 0 = one }) → (one == other) ≡ false
    → writer ≢ Rule (record { 0 = other })
other_rule writer one other is apart same =
    let at : one ≡ other = sym (ap rule_in is) ∙ ap rule_in same in absurd (grind (arith, nat_tests, apart, at))

-- ---- a firing itself

not_by : (latest rule number step : ℕ) (writer : Writer) → IsTold latest step number writer → (number ≡ 0) ⊎ (number < rule)
    → writer ≢ Rule (record { 0 = rule })
not_by latest rule number step writer told less same =
    let is : (number ≡ rule) × (1 ≤ rule) = subst (IsTold latest step number) same told in
    elim less [ inl none ↦ omega (arith, is.0, is.1, none) | inr below ↦ omega (arith, is.0, below) ]

module _ (basin : Draft) (latest : ℕ) (log : Log) (rule step : ℕ) (told : AreTold latest (cells_of basin log)) (asked : List Asked)
    (all : AllByRecursion (IsRulePut basin rule step) asked) (event : Event)
    (wrote : written_by event ≡ puts_written (cells_of basin log) (last_ones basin asked)) where
  slots_of_all : AllByRecursion (IsAt basin) asked
  slots_of_all = weaker_all (IsRulePut basin rule step) (IsAt basin) asked (λ put is. is.slot) all

  held_now : (cell : Cell) → cells_of basin (event ∷ log) cell
      ≡ option_or (last_put basin (puts_written (cells_of basin log) (last_ones basin asked)) cell) (cells_of basin log cell)
  held_now cell = ap (λ puts. option_or (last_put basin puts cell) (cells_of basin log cell)) wrote

  differs : (put : Asked) (end : PutEnd) → end_in (cells_of basin log) put ≡ end → 1 ≤ end_code end → end_in (cells_of basin log) put ≢ Written
  differs put end is some same = let no : end_code end ≡ 0 = ap end_code (sym is ∙ same) in omega (arith, no, some)

  stands_by : (put : Asked) → Among (last_ones basin asked) put → IsRulePut basin rule step put → (end : PutEnd)
      → end_in (cells_of basin log) put ≡ end
      → IsHeldOr (cells_of basin (event ∷ log)) rule put
  stands_by put has is Written end = record {
    content = put.content;
    held =
        held_now put.cell ∙ ap (λ z. option_or z (cells_of basin log put.cell))
        (last_written basin (cells_of basin log) asked put slots_of_all has end);
    number = let number = is.number in omega (arith, number);
    so = inl refl;
  }
  stands_by put has is Kept end =
      let kept = kept_known (cells_of basin log put.cell) put.content end in
      let number = is.number in
      let less = kept.1.1.1 in
      record {
        content = kept.0;
        held =
            held_now put.cell ∙ ap (λ z. option_or z (cells_of basin log put.cell))
            (none_written basin (cells_of basin log) asked put slots_of_all has (differs put Kept end (omega arith))) ∙ kept.1.0;
        number = omega (arith, less, number);
        so = inl kept.1.1.0;
      }
  stands_by put has is (Denied shown) end =
      let held = denied_known (cells_of basin log put.cell) put.content shown end in
      let number = is.number in
      let less : (held.0.number ≡ 0) ⊎ (held.0.number < rule) = subst (λ n. (held.0.number ≡ 0) ⊎ (held.0.number < n)) number held.1.1 in
      record {
        content = held.0;
        held =
            held_now put.cell ∙ ap (λ z. option_or z (cells_of basin log put.cell))
            (none_written basin (cells_of basin log) asked put slots_of_all has (differs put (Denied shown) end (omega arith))) ∙ held.1.0;
        number = elim less [ inl none ↦ omega (arith, none) | inr below ↦ omega (arith, below) ];
        so = inr (not_by latest rule held.0.number put.cell.step.0 held.0.writer (told put.cell held.0 held.1.0) less);
      }

  pub all_standing : AllByRecursion (IsHeldOr (cells_of basin (event ∷ log)) rule) (last_ones basin asked)
  all_standing = all_among (IsHeldOr (cells_of basin (event ∷ log)) rule) (last_ones basin asked) (λ put has.
      stands_by put has (all_at (IsRulePut basin rule step) (last_ones basin asked) put (last_all (IsRulePut basin rule step) basin asked all) has)
      (end_in (cells_of basin log) put) refl)

-- ---- where nothing is due

same_values : (one other : Option ℤ) → is_same_value one other ≡ true → one ≡ other
same_values None None same = refl
same_values None (Some value) same = absurd (cc)
same_values (Some value) None same = absurd (cc)
same_values (Some value) (Some other) same = ap Some ((Decides-int_eq value other).0 same)

both_false : (a b : Bool) → (not a || b) ≡ false → (a ≡ true) × (b ≡ false)
both_false true b e = (refl, e)
both_false false b e = absurd (cc)

pub unchanged : (before cells : Cells) (at : List Cell) → is_changed cells (Some (looks_at before at)) ≡ false
    → AreAlike (value_in before) (value_in cells) at
unchanged before cells [] same = tt
unchanged before cells (cell ∷ at) same =
    let parts = both_false (is_same_value (value_in before cell) (value_in cells cell)) (is_changed cells (Some (looks_at before at))) same in
    (same_values (value_in before cell) (value_in cells cell) parts.0, unchanged before cells at parts.1)

pub all_stand_by : (basin : Draft) (policy : Policy) (step : ℕ) (log : Log) → IsPolicyOf basin policy → FiredIn basin policy step log
    → first_due basin policy (cells_of basin log) log ≡ None → AllStandBy basin policy step log
all_stand_by basin policy step log promise last_ones_stand none rule is =
    by (last_firing log rule) refl (none_due basin policy (cells_of basin log) log rule none is)
  where
    by : (last : Option Firing) → last_firing log rule ≡ last
        → is_changed (cells_of basin log) (option_map (λ (firing : Firing). firing.looked) (last_firing log rule)) ≡ false
        → StandsBy basin policy step log rule
    by None last same =
        absurd (let no : true ≡ false = sym (ap (λ z. is_changed (cells_of basin log) (option_map (λ (firing : Firing). firing.looked) z)) last)
        ∙ same in cc)
    by (Some firing) last same =
        let found = last_ones_stand rule firing last in
        let alike = unchanged found.before (cells_of basin log) found.fire.looked
        (ap (λ z. is_changed (cells_of basin log) (Some z)) (sym found.saw)
        ∙ sym (ap (λ z. is_changed (cells_of basin log) (option_map (λ (firing : Firing). firing.looked) z)) last) ∙ same) in
        record {
          firing = firing;
          last = last;
          fire = found.fire;
          again = promise.framed rule step (value_in found.before) (value_in (cells_of basin log)) found.fire found.does alike;
          is = found.is;
          puts = to_all (IsHeldOr (cells_of basin log) rule) (last_ones basin firing.asked) found.puts;
        }

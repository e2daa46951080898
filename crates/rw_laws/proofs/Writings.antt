-- The puts that firings and dispatches write.
use Rattle.rw_laws.proofs.Common.{All, AllByRecursion, Asked, Bool, ByObject, CanAsk, Cell, Cells, Done, Draft, Fire, FireEnd, Input, IsBasin, IsKind}
use Rattle.rw_laws.proofs.Common.{IsOwnFall, IsPutOf, IsSlot, IsSound, Kind, List, None, Object, Option, Policy, Put, Puts, Rule, RulePut, Some}
use Rattle.rw_laws.proofs.Common.{Writer, Written, [], ap, arith, asked_by, asked_by_rule, asked_for, asked_of_rule, cell_at, end_in, end_of_put}
use Rattle.rw_laws.proofs.Common.{ended, false, get_or_from_slice_get, has_slot, if◌then◌else◌, inl, inr, is_put_again, is_same_object, known}
use Rattle.rw_laws.proofs.Common.{known-view, known_in_place, last_ones, length, map, mapped_all, nat_le, nat_tests, none-some, object_at}
use Rattle.rw_laws.proofs.Common.{option_and_then, option_map, puts_written, recursion_from_All, refl, same_Some, slice_get, slice_get_within}
use Rattle.rw_laws.proofs.Common.{slot_in, slot_in_place, solve-puts, solve_of, some_there, subst, sym, true, unwrap_or, view_of, weaker_all}
use Rattle.rw_laws.proofs.Common.{written_by, ℕ, ◌-◌, ◌<◌, ◌∙◌, ◌∷◌, ◌≡◌, ◌≤◌}
use Rattle.rw_laws.proofs.Dispatches.{filtered_all, written_all}
use Rattle.rw_laws.proofs.PutRules.{was_written}
use Rattle.rw_laws.proofs.Told.{IsTold, IsWriting}
use Rattle.rw_laws.proofs.Staying.{AreLater}

-- ---- a firing

-- a put of the rule in a slot of the basin
pub record IsRulePut (basin : Draft) (rule step : ℕ) (put : Asked) : Type 0 where
  pub slot : IsSlot basin.objects put.cell.slot.0
  pub later : step ≤ put.cell.step.0
  pub number : put.content.number ≡ rule
  pub writer : put.content.writer ≡ Rule (record { 0 = rule })

kept_last : (P : Asked → Type 0) (put : Asked) (puts : List Asked) (test : Bool) → P put → AllByRecursion P puts
    → AllByRecursion P (if test then puts else put ∷ puts)
kept_last P put puts true here rest = rest
kept_last P put puts false here rest = (here, rest)

pub last_all : (P : Asked → Type 0) (basin : Draft) (puts : List Asked) → AllByRecursion P puts → AllByRecursion P (last_ones basin puts)
last_all P basin [] all = tt
last_all P basin (put ∷ puts) all = kept_last P put (last_ones basin puts) (is_put_again basin put puts) all.0 (last_all P basin puts all.1)

pub asked_rule_all : (basin : Draft) (rule step : ℕ) (puts : List RulePut) → All (CanAsk basin) puts
    → AllByRecursion (IsRulePut basin rule step) (asked_of_rule basin rule step puts)
asked_rule_all basin rule step puts all =
    weaker_all (λ (put : Asked). (nat_le put.cell.step.0 basin.control.stamps.count ≡ true) × IsRulePut basin rule step put)
    (IsRulePut basin rule step) _ (λ put both. both.1)
    (filtered_all (IsRulePut basin rule step) (λ (put : Asked). nat_le put.cell.step.0 basin.control.stamps.count)
    (map (asked_by_rule rule step) puts)
    (mapped_all (IsRulePut basin rule step) (asked_by_rule rule step) puts
    (weaker_all (CanAsk basin) (λ (put : RulePut). IsRulePut basin rule step (asked_by_rule rule step put)) puts
    (λ put can. record { slot = can.slot; later = omega arith; number = refl; writer = refl }) (recursion_from_All (CanAsk basin) puts all))))

pub no_rule_is_object : (held : Writer) (rule : ℕ) → is_same_object held (Rule (record { 0 = rule })) ≡ true → ⊥
no_rule_is_object Input rule same = absurd (grind (arith, same))
no_rule_is_object (Rule other) rule same = absurd (grind (arith, same))
no_rule_is_object (ByObject object) rule same = absurd (grind (arith, same))

-- a put that the rule writes
abbrev pub IsRuleWriting : Draft → ℕ → Cells → ℕ → ℕ → Asked → Type 0
IsRuleWriting basin latest cells rule step put = IsWriting basin latest cells put × IsRulePut basin rule step put

rule_writing : (basin : Draft) (latest rule step : ℕ) (cells : Cells) → 1 ≤ rule → (put : Asked)
    → (end_in cells put ≡ Written) × IsRulePut basin rule step put
    → IsWriting basin latest cells put
rule_writing basin latest rule step cells first put (end, is) = record {
  slot = is.slot;
  end = end;
  told = subst (IsTold latest put.cell.step.0 put.content.number) (sym is.writer) (is.number, first);
  falls = λ held there. elim (was_written held put.content (ap (λ z. end_of_put z put.content) (sym there) ∙ end)) [
    | inl way ↦ way.1
    | inr own ↦ absurd (no_rule_is_object held.writer rule (subst (λ w. is_same_object held.writer w ≡ true) is.writer own.1))
  ];
}

pub fired_writings : (basin : Draft) (policy : Policy) (latest rule step : ℕ) (cells : Cells) (fire : Fire) (end : FireEnd) → 1 ≤ rule
    → All (CanAsk basin) fire.puts → AllByRecursion (IsRuleWriting basin latest cells rule step) (written_by (ended basin cells rule step fire end))
fired_writings basin policy latest rule step cells fire Done first asks =
    weaker_all (λ put. (end_in cells put ≡ Written) × IsRulePut basin rule step put) (IsRuleWriting basin latest cells rule step)
    (puts_written cells (last_ones basin (asked_of_rule basin rule step fire.puts)))
    (λ put both. (rule_writing basin latest rule step cells first put both, both.1))
    (written_all (IsRulePut basin rule step) cells (last_ones basin (asked_of_rule basin rule step fire.puts))
    (last_all (IsRulePut basin rule step) basin (asked_of_rule basin rule step fire.puts) (asked_rule_all basin rule step fire.puts asks)))
fired_writings basin policy latest rule step cells fire end first asks = tt

-- none of an earlier timestep
pub rule_later : (basin : Draft) (cells : Cells) (latest rule step : ℕ) (puts : List Asked)
    → AllByRecursion (IsRuleWriting basin latest cells rule step) puts → AreLater step puts
rule_later basin cells latest rule step puts all =
    weaker_all (IsRuleWriting basin latest cells rule step) (λ (put : Asked). step ≤ put.cell.step.0) puts (λ put both. both.1.later) all

-- ---- an object has a number, and its parameters are in range

numbered_at : (objects : List Object) (object : ℕ) (found : Object) (test : Bool) → nat_le 1 object ≡ test
    → (if test then slice_get objects (object - 1) else None) ≡ Some found → (1 ≤ object) × (slice_get objects (object - 1) ≡ Some found)
numbered_at objects object found true first is = (grind (arith, nat_tests, first), is)
numbered_at objects object found false first is = absurd (none-some found is)

pub record IsObjectOf (basin : Draft) (object : ℕ) (kind : Kind) : Type 0 where
  pub first : 1 ≤ object
  pub last : object ≤ length basin.objects
  pub sound : IsKind kind

of_found : (basin : Draft) (object : ℕ) (kind : Kind) (found : Option Object) → IsBasin basin → object_at basin.objects object ≡ found
    → option_map (λ (found : Object). found.kind) found ≡ Some kind → IsObjectOf basin object kind
of_found basin object kind None valid is own = absurd (none-some kind own)
of_found basin object kind (Some found) valid is own =
    let at = numbered_at basin.objects object found (nat_le 1 object) refl is in
    let sound : IsSound found =
    subst IsSound (get_or_from_slice_get basin.objects (object - 1) found found at.1)
    (valid.whole.sound (object - 1) found (slice_get_within basin.objects (object - 1) found at.1)) in
    let first = at.0 in let lt = slice_get_within basin.objects (object - 1) found at.1 in
    record { first = first; last = omega (arith, first, lt); sound = subst IsKind (same_Some _ _ own) sound.kind }

pub is_object_of : (basin : Draft) (object : ℕ) (kind : Kind) → IsBasin basin
    → option_map (λ (found : Object). found.kind) (object_at basin.objects object) ≡ Some kind → IsObjectOf basin object kind
is_object_of basin object kind valid own = of_found basin object kind (object_at basin.objects object) valid refl own

-- ---- a dispatch

-- a put of an object, in one of its slots
pub record IsObjectPut (basin : Draft) (cells : Cells) (object step : ℕ) (put : Put) : Type 0 where
  pub few : put.place < 12
  pub number : ℕ
  pub slot : slot_in_place basin.objects object put.place ≡ Some number
  pub cell : (asked_by basin object step put).cell ≡ cell_at number step
  pub sees : known (view_of basin cells object step) put.place ≡ cells (cell_at number step)

pub sees_at : (basin : Draft) (cells : Cells) (object step place number : ℕ) → place < 12 → slot_in_place basin.objects object place ≡ Some number
    → known (view_of basin cells object step) place ≡ cells (cell_at number step)
sees_at basin cells object step place number few slot =
    known-view basin cells object step place few ∙ ap (λ found. option_and_then cells (option_map (λ s. cell_at s step) found)) slot

pub object_put : (basin : Draft) (cells : Cells) (object step : ℕ) (kind : Kind) (put : Put) → IsObjectOf basin object kind
    → option_map (λ (found : Object). found.kind) (object_at basin.objects object) ≡ Some kind
    → IsPutOf kind (view_of basin cells object step) put → IsObjectPut basin cells object step put
object_put basin cells object step kind put is own can =
    let slot = some_there (slot_in kind put.place) can.own.slot in
    let has = has_slot basin.objects object put.place kind slot.0 is.first own slot.1 in
    record {
      few = can.own.few;
      number = has.0;
      slot = has.1;
      cell = ap (λ found. cell_at (unwrap_or found 0) step) has.1;
      sees = sees_at basin cells object step put.place has.0 can.own.few has.1;
    }

pub object_puts : (basin : Draft) (cells : Cells) (object step : ℕ) (kind : Kind) (puts : List Put) → IsBasin basin
    → option_map (λ (found : Object). found.kind) (object_at basin.objects object) ≡ Some kind
    → solve_of kind (view_of basin cells object step) ≡ Puts puts → AllByRecursion (IsObjectPut basin cells object step) puts
object_puts basin cells object step kind puts valid own answers =
    let is = is_object_of basin object kind valid own in
    let fit = solve-puts kind (view_of basin cells object step) puts is.sound answers in
    weaker_all (IsPutOf kind (view_of basin cells object step)) (IsObjectPut basin cells object step) puts
    (λ put can. object_put basin cells object step kind put is own can)
    (recursion_from_All (IsPutOf kind (view_of basin cells object step)) puts fit.0)

object_writing : (basin : Draft) (cells : Cells) (object step : ℕ) (put : Put) → IsObjectPut basin cells object step put
    → IsOwnFall (view_of basin cells object step) put
    → end_in cells (asked_by basin object step put) ≡ Written → IsWriting basin step cells (asked_by basin object step put)
object_writing basin cells object step put is own end = record {
  slot = subst (λ (c : Cell). IsSlot basin.objects c.slot.0) (sym is.cell) (known_in_place basin.objects object put.place is.number is.slot);
  end = end;
  told = omega arith;
  falls =
      λ held there. elim (was_written held (asked_by basin object step put).content
      (ap (λ z. end_of_put z (asked_by basin object step put).content) (sym there) ∙ end)) [
        | inl way ↦ way.1
        | inr same ↦ own held (is.sees ∙ ap cells (sym is.cell) ∙ there) same.1
      ];
}

-- a put that the object writes
abbrev pub IsObjectWriting : Draft → ℕ → Cells → ℕ → Asked → Type 0
IsObjectWriting basin latest cells object put = IsWriting basin latest cells put × (put.content.writer ≡ ByObject (record { 0 = object }))

abbrev CanWrite : Draft → Cells → ℕ → ℕ → Asked → Type 0
CanWrite basin cells object step put = end_in cells put ≡ Written → IsObjectWriting basin step cells object put

pub solved_writings : (basin : Draft) (cells : Cells) (object step : ℕ) (puts : List Put) → AllByRecursion (IsObjectPut basin cells object step) puts
    → AllByRecursion (IsOwnFall (view_of basin cells object step)) puts
    → AllByRecursion (IsObjectWriting basin step cells object) (puts_written cells (asked_for basin object step puts))
solved_writings basin cells object step puts all own =
    weaker_all (λ put. (end_in cells put ≡ Written) × CanWrite basin cells object step put) (IsObjectWriting basin step cells object)
    (puts_written cells (asked_for basin object step puts))
    (λ put both. both.1 both.0)
    (written_all (CanWrite basin cells object step) cells (asked_for basin object step puts)
    (mapped_all (CanWrite basin cells object step) (asked_by basin object step) puts (can puts all own)))
  where
    can : (puts : List Put) → AllByRecursion (IsObjectPut basin cells object step) puts
        → AllByRecursion (IsOwnFall (view_of basin cells object step)) puts
        → AllByRecursion (λ put. CanWrite basin cells object step (asked_by basin object step put)) puts
    can [] all own = tt
    can (put ∷ puts) all own = (λ end. (object_writing basin cells object step put all.0 own.0 end, refl), can puts all.1 own.1)

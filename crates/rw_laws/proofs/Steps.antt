-- What holds of every log of a run: priority is kept, and each object's slots are as dispatches leave them.
use Rattle.rw_laws.proofs.Common.{All, All-nil, AllByRecursion, Bool, ByObject, CanAsk, Cell, Cells, Content, DividesByZero, Done, Draft, EndsOutside}
use Rattle.rw_laws.proofs.Common.{Event, Fire, FireEnd, Firing, IsAfterOwn, IsBasin, IsFault, IsKind, IsPolicyOf, Kind, Left, List, Log, None, Object}
use Rattle.rw_laws.proofs.Common.{Policy, Put, Rule, Some, Standing, Unknown, View, Writer, [], ap, arith, asked_for, cell_at, cells_of, closed}
use Rattle.rw_laws.proofs.Common.{dispatch_of, due_is_rule, ended, false, fault, fired, idle, if◌then◌else◌, inl, input_content, inr, inside}
use Rattle.rw_laws.proofs.Common.{is_same_object, is_shared, last_put, left_begins, left_by_others, left_by_own, looks_of, nat_tests, none-some}
use Rattle.rw_laws.proofs.Common.{object_at, opened, option_map, option_or, over, own_puts_fall, with_inputs, puts_are_apart, puts_written, refl}
use Rattle.rw_laws.proofs.Common.{rests}
use Rattle.rw_laws.proofs.Common.{same_Some, standing, subst, sym, true, value_in, view_of, weaker_all, written_by, ℕ, ℤ, ◌+◌, ◌<◌, ◌==◌, ◌∙◌, ◌∷◌}
use Rattle.rw_laws.proofs.Common.{◌≡◌, ◌≤◌}
use Rattle.rw_run.specs.Log.{placed}
use Rattle.rw_laws.specs.Priority.{IsNoLowerPut, KeepPriority, KeepsPriority}
use Rattle.rw_laws.proofs.Came.{Came, Closes, Fires, Opens, asks, closes, ends, fires, opens}
use Rattle.rw_laws.proofs.Dispatches.{Asked_of, Solves, asked_of, idles, solves, stops}
use Rattle.rw_laws.proofs.OwnPuts.{later_all, own_after}
use Rattle.rw_laws.proofs.Told.{AreTold, IsTold, IsWriting, keeps_priority, told_after}
use Rattle.rw_laws.proofs.Viewing.{IsOthers, has_or_bare, passes}
use Rattle.rw_laws.proofs.Writings.{IsObjectWriting, IsRuleWriting, fired_writings, is_object_of, object_puts, rule_later, sees_at, solved_writings}
use Rattle.rw_laws.proofs.Staying.{AreLater}

-- ---- what holds of a log

abbrev pub KindIs : Draft → ℕ → Kind → Type 0
KindIs basin object kind = option_map (λ (found : Object). found.kind) (object_at basin.objects object) ≡ Some kind

abbrev pub ToldIn : Cells → Standing → Type 0
ToldIn cells (rests step) = AreTold step cells
ToldIn cells (inside step) = AreTold step cells
ToldIn cells over = Unit {0}

abbrev pub LeftIn : Draft → Cells → Standing → Type 0
LeftIn basin cells (rests step) = Unit {0}
LeftIn basin cells (inside step) = (object : ℕ) (kind : Kind) → KindIs basin object kind → Left kind (view_of basin cells object step)
LeftIn basin cells over = Unit {0}

pub record Holds (basin : Draft) (log : Log) : Type 0 where
  pub priority : KeepPriority basin log
  pub told : ToldIn (cells_of basin log) (standing log)
  pub left : LeftIn basin (cells_of basin log) (standing log)

-- ---- a dispatch that puts

abbrev pub solving : Draft → Log → ℕ → ℕ → List Put → Event
solving basin log object step puts =
    dispatch_of (cells_of basin log) (looks_of basin (cells_of basin log) object step) object step (asked_for basin object step puts)

-- what it writes, and how it leaves its object's slots
pub record IsDispatch (basin : Draft) (log : Log) (object step : ℕ) (kind : Kind) (puts : List Put) : Type 0 where
  pub sound : IsKind kind
  pub writes : AllByRecursion (IsObjectWriting basin step (cells_of basin log) object)
      (puts_written (cells_of basin log) (asked_for basin object step puts))
  pub leaves : IsAfterOwn (view_of basin (cells_of basin log) object step)
      (view_of basin (cells_of basin (solving basin log object step puts ∷ log)) object step) puts

pub dispatch_does : (basin : Draft) → IsBasin basin → (log : Log) (object step : ℕ) (event : Event) → LeftIn basin (cells_of basin log) (inside step)
    → (at : Solves basin (cells_of basin log) object step event) → IsDispatch basin log object step at.kind at.puts
dispatch_does basin valid log object step event left at =
    let sound : IsKind at.kind = (is_object_of basin object at.kind valid at.own).sound in
    let puts = object_puts basin (cells_of basin log) object step at.kind at.puts valid at.own at.answers in
    let own = own_puts_fall at.kind (view_of basin (cells_of basin log) object step) at.puts sound (left object at.kind at.own) at.answers in
    record {
      sound = sound;
      writes = solved_writings basin (cells_of basin log) object step at.puts puts own;
      leaves = own_after basin valid log (looks_of basin (cells_of basin log) object step) object step at.puts puts own at.fine
          (puts_are_apart at.kind (view_of basin (cells_of basin log) object step) at.puts sound at.answers);
    }

-- what is so of an object's slots, by the kind that it has
pub of_same : (P : Kind → View → Type 0) (basin : Draft) (log : Log) (object other step : ℕ) (own kind : Kind) → (object == other) ≡ true
    → KindIs basin object own → KindIs basin other kind
    → P own (view_of basin (cells_of basin log) object step) → P kind (view_of basin (cells_of basin log) other step)
of_same P basin log object other step own kind same has is here =
    let one : object ≡ other = grind (arith, nat_tests, same) in
    let kinds : own ≡ kind = same_Some _ _ (sym has ∙ ap (λ o. option_map (λ (found : Object). found.kind) (object_at basin.objects o)) one ∙ is) in
    subst (λ o. P kind (view_of basin (cells_of basin log) o step)) one (subst (λ k. P k (view_of basin (cells_of basin log) object step)) kinds here)

-- ---- inputs

told_given : (basin : Draft) (log : Log) (cell : Cell) (value : ℤ) → AreTold 0 (cells_of basin log)
    → AreTold 0 (cells_of basin (placed cell value ∷ log))
told_given basin log cell value told other content held = by (is_shared basin cell other) held
  where
    by : (test : Bool) → option_or (if test then Some (input_content value) else None) (cells_of basin log other) ≡ Some content
        → IsTold 0 other.step.0 content.number content.writer
    by true held = subst (λ (c : Content). IsTold 0 other.step.0 c.number c.writer) (same_Some _ _ held) refl
    by false held = told other content held

-- ---- what an event leaves

told_later : (step later : ℕ) (cells : Cells) → step ≤ later → AreTold step cells → AreTold later cells
told_later step later cells le told cell content held = by content.writer (told cell content held)
  where
    by : (writer : Writer) → IsTold step cell.step.0 content.number writer → IsTold later cell.step.0 content.number writer
    by (ByObject object) is = omega (arith, is, le)
    by writer is = is

not_yet : (step object at number : ℕ) (writer : Writer) → step < at → IsTold step at number writer
    → is_same_object writer (ByObject (record { 0 = object })) ≡ false
not_yet step object at number (ByObject other) later told = absurd (omega (arith, told, later))
not_yet step object at number writer later told = refl

by_rule : (object rule : ℕ) (writer : Writer) → writer ≡ Rule (record { 0 = rule }) → is_same_object writer (ByObject (record { 0 = object })) ≡ false
by_rule object rule writer is = ap (λ w. is_same_object w (ByObject (record { 0 = object }))) is

by_other : (object other : ℕ) (writer : Writer) → writer ≡ ByObject (record { 0 = other }) → (other == object) ≡ false
    → is_same_object writer (ByObject (record { 0 = object })) ≡ false
by_other object other writer is apart = ap (λ w. is_same_object w (ByObject (record { 0 = object }))) is ∙ apart

module _ (basin : Draft) (valid : IsBasin basin) (policy : Policy) (promise : IsPolicyOf basin policy) where
  -- an event that writes nothing
  quiet : (log : Log) (event : Event) → written_by event ≡ [] → (cell : Cell) → cells_of basin (event ∷ log) cell ≡ cells_of basin log cell
  quiet log event none cell = ap (λ puts. option_or (last_put basin puts cell) (cells_of basin log cell)) none

  quiet_priority : (log : Log) (event : Event) → written_by event ≡ [] → KeepsPriority basin (cells_of basin log) event
  quiet_priority log event none = record {
    puts = subst (All (IsNoLowerPut (cells_of basin log))) (sym none) (All-nil (IsNoLowerPut (cells_of basin log)));
    inputs = λ cell content held writer. quiet log event none cell ∙ held;
  }

  quiet_left : (log : Log) (event : Event) (step : ℕ) → written_by event ≡ [] → LeftIn basin (cells_of basin log) (inside step)
      → LeftIn basin (cells_of basin (event ∷ log)) (inside step)
  quiet_left log event step none left object kind is =
      left_by_others kind (view_of basin (cells_of basin log) object step) (view_of basin (cells_of basin (event ∷ log)) object step)
      (passes basin step log event object step (subst (AllByRecursion (IsOthers basin step (cells_of basin log) object)) (sym none) tt)
      (subst (AreLater step) (sym none) tt)) (left object kind is)

  -- a timestep begins
  begun : (log : Log) (step : ℕ) → AreTold step (cells_of basin log) → LeftIn basin (cells_of basin (opened (step + 1) ∷ log)) (inside (step + 1))
  begun log step told object kind is =
      left_begins kind (view_of basin (cells_of basin (opened (step + 1) ∷ log)) object (step + 1)) (λ place content held.
      elim (has_or_bare basin object place) [
        | inl has ↦
            let there : cells_of basin log (cell_at has.number (step + 1)) ≡ Some content =
            sym (sees_at basin (cells_of basin (opened (step + 1) ∷ log)) object (step + 1) place has.number has.few has.slot) ∙ held in
            not_yet step object (step + 1) content.number content.writer (omega arith) (told (cell_at has.number (step + 1)) content there)
        | inr bare ↦ absurd (none-some content (sym (bare (cells_of basin (opened (step + 1) ∷ log)) (step + 1)) ∙ held))
      ])

  opens_holds : (log : Log) (event : Event) → Holds basin log → Opens log event → Holds basin (event ∷ log)
  opens_holds log event holds at =
      let told : AreTold at.step (cells_of basin log) = subst (ToldIn (cells_of basin log)) at.stands holds.told in
      subst (λ e. Holds basin (e ∷ log)) (sym at.is) (record {
        priority = (quiet_priority log (opened (at.step + 1)) refl, holds.priority);
        told = told_later at.step (at.step + 1) (cells_of basin log) (omega arith) told;
        left = begun log at.step told;
      })

  closes_holds : (log : Log) (event : Event) → Holds basin log → Closes basin policy log event → Holds basin (event ∷ log)
  closes_holds log event holds at =
      subst (λ e. Holds basin (e ∷ log)) (sym at.is) (record {
        priority = (quiet_priority log (closed at.step) refl, holds.priority);
        told = subst (ToldIn (cells_of basin log)) at.stands holds.told;
        left = tt;
      })

  fault_holds : (log : Log) (event : Event) → Holds basin log → IsFault event → Holds basin (event ∷ log)
  fault_holds log (fault why) holds over_by = record { priority = (quiet_priority log (fault why) refl, holds.priority); told = tt; left = tt }
  fault_holds log event holds over_by = absurd over_by

  fired_holds : (log : Log) (step rule : ℕ) (firing : Firing) → firing.step ≡ step → Holds basin log → standing log ≡ inside step
      → AllByRecursion (IsRuleWriting basin step (cells_of basin log) rule step) firing.written → Holds basin (fired firing ∷ log)
  fired_holds log step rule firing at holds stands all =
      let told : AreTold step (cells_of basin log) = subst (ToldIn (cells_of basin log)) stands holds.told in
      let left : LeftIn basin (cells_of basin log) (inside step) = subst (LeftIn basin (cells_of basin log)) stands holds.left in
      let writing : AllByRecursion (IsWriting basin step (cells_of basin log)) firing.written =
      weaker_all (IsRuleWriting basin step (cells_of basin log) rule step) (IsWriting basin step (cells_of basin log)) firing.written
      (λ put both. both.0) all in
      let new_told : AreTold step (cells_of basin (fired firing ∷ log)) = told_after basin step log (fired firing) told writing in
      let new_left : LeftIn basin (cells_of basin (fired firing ∷ log)) (inside step) = (λ object kind is.
      left_by_others kind (view_of basin (cells_of basin log) object step) (view_of basin (cells_of basin (fired firing ∷ log)) object step)
      (passes basin step log (fired firing) object step
      (weaker_all (IsRuleWriting basin step (cells_of basin log) rule step) (IsOthers basin step (cells_of basin log) object) firing.written
      (λ put both. (both.0, by_rule object rule put.content.writer both.1.writer)) all)
      (rule_later basin (cells_of basin log) step rule step firing.written all)) (left object kind is)) in
      record {
        priority = (keeps_priority basin step log (fired firing) told writing, holds.priority);
        told = subst (λ s. AreTold s (cells_of basin (fired firing ∷ log))) (sym at) new_told;
        left = subst (λ s. LeftIn basin (cells_of basin (fired firing ∷ log)) (inside s)) (sym at) new_left;
      }

  ended_holds : (log : Log) (step rule : ℕ) (fire : Fire) (end : FireEnd) → Holds basin log → standing log ≡ inside step → 1 ≤ rule
      → All (CanAsk basin) fire.puts
      → Holds basin (ended basin (cells_of basin log) rule step fire end ∷ log)
  ended_holds log step rule fire DividesByZero holds stands first asked =
      fault_holds log (ended basin (cells_of basin log) rule step fire DividesByZero) holds tt
  ended_holds log step rule fire (EndsOutside value) holds stands first asked =
      fault_holds log (ended basin (cells_of basin log) rule step fire (EndsOutside value)) holds tt
  ended_holds log step rule fire Unknown holds stands first asked =
      fired_holds log step rule _ refl holds stands (fired_writings basin policy step rule step (cells_of basin log) fire Unknown first asked)
  ended_holds log step rule fire Done holds stands first asked =
      fired_holds log step rule _ refl holds stands (fired_writings basin policy step rule step (cells_of basin log) fire Done first asked)

  fires_holds : (log : Log) (event : Event) → Holds basin log → Fires basin policy log event → Holds basin (event ∷ log)
  fires_holds log event holds at =
      let rule = due_is_rule basin policy (cells_of basin log) log at.rule at.due in
      subst (λ e. Holds basin (e ∷ log)) (sym at.is)
      (ended_holds log at.step at.rule at.fire at.fire.end holds at.stands rule.first
      (promise.asks at.rule at.step (value_in (cells_of basin log)) at.fire at.does))

  -- a dispatch leaves the slots of its own object as it may, and those of others as they may be
  solved_left : (log : Log) (step object : ℕ) (event : Event) (at : Solves basin (cells_of basin log) object step event)
      → LeftIn basin (cells_of basin log) (inside step)
      → (other : ℕ) (kind : Kind) → KindIs basin other kind → (test : Bool) → (object == other) ≡ test
      → Left kind (view_of basin (cells_of basin (solving basin log object step at.puts ∷ log)) other step)
  solved_left log step object event at left other kind is true same =
      let does = dispatch_does basin valid log object step event left at in
      of_same Left basin (solving basin log object step at.puts ∷ log) object other step at.kind kind same at.own is
      (left_by_own at.kind (view_of basin (cells_of basin log) object step) _ at.puts does.sound (left object at.kind at.own) at.answers does.leaves)
  solved_left log step object event at left other kind is false apart =
      left_by_others kind (view_of basin (cells_of basin log) other step) _
      (passes basin step log (solving basin log object step at.puts) other step
      (weaker_all (IsObjectWriting basin step (cells_of basin log) object) (IsOthers basin step (cells_of basin log) other)
      (puts_written (cells_of basin log) (asked_for basin object step at.puts))
      (λ put both. (both.0, by_other other object put.content.writer both.1 apart)) (dispatch_does basin valid log object step event left at).writes)
      (later_all basin (cells_of basin log) object step at.puts)) (left other kind is)

  solved_holds : (log : Log) (step object : ℕ) (event : Event) → Holds basin log → standing log ≡ inside step
      → Solves basin (cells_of basin log) object step event → Holds basin (event ∷ log)
  solved_holds log step object event holds stands at =
      let told : AreTold step (cells_of basin log) = subst (ToldIn (cells_of basin log)) stands holds.told in
      let left : LeftIn basin (cells_of basin log) (inside step) = subst (LeftIn basin (cells_of basin log)) stands holds.left in
      let writing : AllByRecursion (IsWriting basin step (cells_of basin log))
      (puts_written (cells_of basin log) (asked_for basin object step at.puts)) =
      weaker_all (IsObjectWriting basin step (cells_of basin log) object) (IsWriting basin step (cells_of basin log))
      (puts_written (cells_of basin log) (asked_for basin object step at.puts))
      (λ put both. both.0) (dispatch_does basin valid log object step event left at).writes in
      subst (λ e. Holds basin (e ∷ log)) (sym at.is) (record {
        priority = (keeps_priority basin step log (solving basin log object step at.puts) told writing, holds.priority);
        told = told_after basin step log (solving basin log object step at.puts) told writing;
        left = λ other kind is. solved_left log step object event at left other kind is (object == other) refl;
      })

  asks_holds : (log : Log) (event : Event) (step object : ℕ) → Holds basin log → standing log ≡ inside step
      → Asked_of basin (cells_of basin log) object step event → Holds basin (event ∷ log)
  asks_holds log event step object holds stands (idles at) =
      subst (λ e. Holds basin (e ∷ log)) (sym at.is) (record {
        priority = (quiet_priority log (idle object step (looks_of basin (cells_of basin log) object step)) refl, holds.priority);
        told = subst (ToldIn (cells_of basin log)) stands holds.told;
        left =
            quiet_left log (idle object step (looks_of basin (cells_of basin log) object step)) step refl
            (subst (LeftIn basin (cells_of basin log)) stands holds.left);
      })
  asks_holds log event step object holds stands (solves at) = solved_holds log step object event holds stands at
  asks_holds log event step object holds stands (stops why) = fault_holds log event holds why

  pub next_holds : (log : Log) (event : Event) → Holds basin log → Came basin policy log event → Holds basin (event ∷ log)
  next_holds log event holds (opens at) = opens_holds log event holds at
  next_holds log event holds (closes at) = closes_holds log event holds at
  next_holds log event holds (fires at) = fires_holds log event holds at
  next_holds log event holds (asks at) =
      asks_holds log event at.step at.object holds at.stands (asked_of basin (cells_of basin log) at.object at.step event at.is)
  next_holds log event holds (ends why) = fault_holds log event holds why

  -- ---- logs

  given_holds : (log : Log) (cell : Cell) (value : ℤ) → Holds basin log → standing log ≡ rests 0 → Holds basin (placed cell value ∷ log)
  given_holds log cell value holds stands = record {
    priority = holds.priority;
    told = told_given basin log cell value (subst (ToldIn (cells_of basin log)) stands holds.told);
    left = tt;
  }

  placed_holds : (log : Log) (inputs : List (Cell × ℤ)) → Holds basin log → standing log ≡ rests 0 → Holds basin (with_inputs log inputs)
  placed_holds log [] holds stands = holds
  placed_holds log (input ∷ inputs) holds stands =
      placed_holds (placed input.0 input.1 ∷ log) inputs (given_holds log input.0 input.1 holds stands) refl

  pub begin_holds : (inputs : List (Cell × ℤ)) → Holds basin (with_inputs [] inputs)
  begin_holds inputs = placed_holds [] inputs (record { priority = tt; told = λ cell content held. absurd (none-some content held); left = tt }) refl

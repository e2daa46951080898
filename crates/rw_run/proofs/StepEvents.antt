-- Of which timestep the events of a run are.
use Rattle.rw_base.proofs.Common.{◌≡◌, ◌≢◌, ◌+◌, ◌==◌, ℕ, ℤ, Bool, true, false, List, [], ◌∷◌, map, Option, Some, None, nat_le, nat_lt, refl, sym}
use Rattle.rw_base.proofs.Common.{subst, arith, if◌then◌else◌, option_map, nat_tests, same_Some, none-some}
use Rattle.rw_model.specs.Draft.{Draft}
use Rattle.rw_method.specs.declared.put.Put.{Put}
use Rattle.rw_method.specs.declared.solved.Solved.{Solved}
use Rattle.rw_method.specs.declared.solved.Solved.TheVariants.{Idle, Puts, Conflict, OutOfRange}
use Rattle.rw_firing.specs.Fire.{Fire}
use Rattle.rw_firing.specs.declared.fire.FireEnd.{FireEnd}
use Rattle.rw_firing.specs.declared.fire.FireEnd.TheVariants.{Done, Unknown, ZeroDivisor as DividesByZero, OutOfRange as EndsOutside}
use Rattle.rw_firing.specs.declared.look.Look.{Look}
use Rattle.rw_run.specs.declared.fault.RunFault.TheVariants.{ObjectLimit, RuleLimit}
use Rattle.rw_run.specs.Dispatch.{asked_by, answered, denied_by, dispatch_of, dispatched, end_in, judged, looks_of, or_fault, solved_by}
use Rattle.rw_run.specs.Log.{Asked, Cells, Event, Log, cells_of, opened, closed, idle, solved, fired, fault, value_in}
use Rattle.rw_run.specs.Next.{Policy, after_objects, asked_next, dispatches, ended, firing_of, firings, first_due, next_of}
use Rattle.rw_run.specs.Runs.{Standing, follows_in, rests, inside, over}
use Rattle.rw_run.specs.Step.{is_closing, is_of_step, is_opening, step_of_fault}
use Rattle.rw_run.specs.Waiting.{first_waiting}

-- an event within the timestep: all but an input and an opening
abbrev pub IsWithin : ℕ → Event → Type 0
IsWithin step (closed other) = other ≡ step
IsWithin step (idle object other looked) = other ≡ step
IsWithin step (solved dispatch) = dispatch.step ≡ step
IsWithin step (fired firing) = firing.step ≡ step
IsWithin step (fault why) = step_of_fault why ≡ step
IsWithin step event = ⊥

-- ---- what follows in an open timestep is within it

or_fault_within : (values : Option (ℤ × ℤ)) (object step : ℕ) (put : Asked) (rest : Event) → put.cell.step.0 ≡ step → IsWithin step rest
    → IsWithin step (or_fault values object put rest)
or_fault_within None object step put rest at is = is
or_fault_within (Some values) object step put rest at is = at

asked_within : (basin : Draft) (cells : Cells) (object step : ℕ) (puts : List Put) (rest : Event) → IsWithin step rest
    → IsWithin step (judged cells object (map (asked_by basin object step) puts) rest)
asked_within basin cells object step [] rest is = is
asked_within basin cells object step (put ∷ puts) rest is =
    let asked : Asked = asked_by basin object step put in
    or_fault_within (denied_by (end_in cells asked) asked) object step asked (judged cells object (map (asked_by basin object step) puts) rest) refl
    (asked_within basin cells object step puts rest is)

answered_within : (basin : Draft) (cells : Cells) (looked : List Look) (object step : ℕ) (answer : Solved)
    → IsWithin step (answered basin cells looked object step answer)
answered_within basin cells looked object step Idle = refl
answered_within basin cells looked object step (Puts puts) =
    asked_within basin cells object step puts (dispatch_of cells looked object step (map (asked_by basin object step) puts)) refl
answered_within basin cells looked object step (Conflict place held solves) = refl
answered_within basin cells looked object step (OutOfRange place value) = refl

ended_within : (basin : Draft) (cells : Cells) (rule step : ℕ) (fire : Fire) (end : FireEnd) → IsWithin step (ended basin cells rule step fire end)
ended_within basin cells rule step fire DividesByZero = refl
ended_within basin cells rule step fire (EndsOutside value) = refl
ended_within basin cells rule step fire Unknown = refl
ended_within basin cells rule step fire Done = refl

fires_within : (basin : Draft) (cells : Cells) (rule step : ℕ) (found : Option Fire) (event : Event)
    → option_map (λ (fire : Fire). ended basin cells rule step fire fire.end) found ≡ Some event → IsWithin step event
fires_within basin cells rule step None event is = absurd (none-some _ is)
fires_within basin cells rule step (Some fire) event is =
    subst (IsWithin step) (same_Some _ _ is) (ended_within basin cells rule step fire fire.end)

module _ (basin : Draft) (policy : Policy) (log : Log) (step : ℕ) where
  after_within : (due : Option ℕ) (event : Event) → after_objects basin policy (cells_of basin log) log step due ≡ Some event → IsWithin step event
  after_within None event is = subst (IsWithin step) (same_Some _ _ is) refl
  after_within (Some rule) event is = by (nat_le basin.control.rule_limit (firings log rule)) is
    where
      by : (reached : Bool)
          → (if reached then Some (fault (RuleLimit (record { 0 = rule }) (record { 0 = step }) (firings log rule)))
          else firing_of basin policy (cells_of basin log) rule step) ≡ Some event → IsWithin step event
      by true is = subst (IsWithin step) (same_Some (fault (RuleLimit (record { 0 = rule }) (record { 0 = step }) (firings log rule))) event is) refl
      by false is = fires_within basin (cells_of basin log) rule step (policy.fire rule step (value_in (cells_of basin log))) event is

  object_within : (object : ℕ) → IsWithin step (asked_next basin (cells_of basin log) log step object)
  object_within object = by (nat_le basin.control.object_limit (dispatches log object))
    where
      by : (reached : Bool) → IsWithin step (if reached
          then fault (ObjectLimit (record { 0 = object }) (record { 0 = step }) (dispatches log object))
          else dispatched basin (cells_of basin log) object step)
      by true = refl
      by false =
          answered_within basin (cells_of basin log) (looks_of basin (cells_of basin log) object step) object step
          (solved_by basin (cells_of basin log) object step)

  next_within : (object : Option ℕ) (event : Event) → next_of basin policy (cells_of basin log) log step object ≡ Some event → IsWithin step event
  next_within None event is = after_within (first_due basin policy (cells_of basin log) log) event is
  next_within (Some object) event is = subst (IsWithin step) (same_Some _ _ is) (object_within object)

-- what follows a log that stands so: the next timestep is opened, or an event is within the open one
abbrev pub IsAfter : Standing → Event → Type 0
IsAfter (rests step) event = event ≡ opened (step + 1)
IsAfter (inside step) event = IsWithin step event
IsAfter over event = ⊥

opens_after : (count step : ℕ) (event : Event) (near : Bool) → (if near then Some (opened (step + 1)) else None) ≡ Some event
    → event ≡ opened (step + 1)
opens_after count step event true is = sym (same_Some _ _ is)
opens_after count step event false is = absurd (none-some _ is)

pub is_after : (basin : Draft) (policy : Policy) (log : Log) (event : Event) (at : Standing) → follows_in basin policy log at ≡ Some event
    → IsAfter at event
is_after basin policy log event (rests step) is =
    opens_after basin.control.stamps.count step event (nat_lt step basin.control.stamps.count) is
is_after basin policy log event (inside step) is = next_within basin policy log step (first_waiting basin log) event is
is_after basin policy log event over is = absurd (none-some _ is)

-- ---- an event is of one timestep

apart : (a step other : ℕ) → a ≡ step → step ≢ other → (a == other) ≡ false
apart a step other is differ = grind (arith, nat_tests, is, differ)

alike : (a step : ℕ) → a ≡ step → (a == step) ≡ true
alike a step is = grind (arith, nat_tests, is)

pub of_no_other : (step other : ℕ) (event : Event) → IsWithin step event → step ≢ other → is_of_step other event ≡ false
of_no_other step other (closed at) is differ = apart at step other is differ
of_no_other step other (idle object at looked) is differ = apart at step other is differ
of_no_other step other (solved dispatch) is differ = apart dispatch.step step other is differ
of_no_other step other (fired firing) is differ = apart firing.step step other is differ
of_no_other step other (fault why) is differ = apart (step_of_fault why) step other is differ
of_no_other step other event is differ = absurd is

pub of_its_own : (step : ℕ) (event : Event) → IsWithin step event → is_of_step step event ≡ true
of_its_own step (closed at) is = alike at step is
of_its_own step (idle object at looked) is = alike at step is
of_its_own step (solved dispatch) is = alike dispatch.step step is
of_its_own step (fired firing) is = alike firing.step step is
of_its_own step (fault why) is = alike (step_of_fault why) step is
of_its_own step event is = absurd is

pub opened_of_no_other : (step other : ℕ) → step ≢ other → is_of_step other (opened step) ≡ false
opened_of_no_other step other differ = apart step step other refl differ

pub opens_nothing : (step : ℕ) (event : Event) → is_of_step step event ≡ false → is_opening step event ≡ false
opens_nothing step (opened other) none = none
opens_nothing step event none = refl

pub closes_nothing : (step : ℕ) (event : Event) → is_of_step step event ≡ false → is_closing step event ≡ false
closes_nothing step (closed other) none = none
closes_nothing step event none = refl

pub within_opens_nothing : (step other : ℕ) (event : Event) → IsWithin step event → is_opening other event ≡ false
within_opens_nothing step other (opened at) is = absurd is
within_opens_nothing step other event is = refl

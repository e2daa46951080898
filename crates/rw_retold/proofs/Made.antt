-- What the event that follows a log is, whoever is dispatched.
use Rattle.rw_base.proofs.Common.{◌≡◌, ◌∙◌, ℕ, ◌+◌, ℤ, Bool, true, false, List, [], ◌∷◌, Option, Some, None, nat_le, nat_lt, nat_tests, arith}
use Rattle.rw_base.proofs.Common.{refl, sym, ap, ap₂, subst, if◌then◌else◌, option_map, same_Some, none-some}
use Rattle.rw_model.specs.Draft.{Draft}
use Rattle.rw_model.specs.Turn.{IsStep}
use Rattle.rw_method.specs.declared.solved.Solved.{Solved}
use Rattle.rw_method.specs.declared.solved.Solved.TheVariants.{Idle, Puts, Conflict, OutOfRange}
use Rattle.rw_firing.specs.Fire.{Fire}
use Rattle.rw_firing.specs.declared.fire.FireEnd.{FireEnd}
use Rattle.rw_firing.specs.declared.fire.FireEnd.TheVariants.{Done, Unknown, ZeroDivisor as DividesByZero, OutOfRange as EndsOutside}
use Rattle.rw_firing.specs.declared.look.Look.{Look}
use Rattle.rw_run.specs.declared.fault.RunFault.TheVariants.{ObjectLimit, RuleLimit}
use Rattle.rw_run.specs.Choice.{MayFollow}
use Rattle.rw_run.specs.Dispatch.{answered, asked_for, denied_by, dispatch_of, dispatched, end_in, judged, looks_of, or_fault, solved_by}
use Rattle.rw_run.specs.Log.{Asked, Cells, Event, Log, placed, opened, closed, idle, solved, fired, fault, cells_of, value_in}
use Rattle.rw_run.specs.Next.{Policy, after_objects, asked_next, dispatches, ended, first_due, firing_of, firings, next_of}
use Rattle.rw_run.specs.Runs.{Standing, follows_by, inside, over, rests, standing}

-- a dispatch is of its object at its timestep, and a firing is what its rule does there
abbrev pub IsMade : Draft → Policy → Log → Event → Type 0
IsMade basin policy log (placed cell value) = ⊥
IsMade basin policy log (opened step) = IsStep basin step
IsMade basin policy log (closed step) = Unit {0}
IsMade basin policy log (idle object step looked) = standing log ≡ inside step
IsMade basin policy log (solved dispatch) =
    (standing log ≡ inside dispatch.step) × (dispatched basin (cells_of basin log) dispatch.object dispatch.step ≡ solved dispatch)
IsMade basin policy log (fired firing) =
    (standing log ≡ inside firing.step)
    × ((fire : Fire) × (policy.fire firing.rule firing.step (value_in (cells_of basin log)) ≡ Some fire))
IsMade basin policy log (fault why) = Unit {0}

-- ---- a dispatch

abbrev IsShaped : ℕ → ℕ → Event → Type 0
IsShaped object step (idle other at looked) = at ≡ step
IsShaped object step (solved dispatch) = (dispatch.object ≡ object) × (dispatch.step ≡ step)
IsShaped object step (fault why) = Unit {0}
IsShaped object step event = ⊥

fault_shaped : (object step : ℕ) (put : Asked) (rest : Event) (values : Option (ℤ × ℤ)) → IsShaped object step rest
    → IsShaped object step (or_fault values object put rest)
fault_shaped object step put rest None shaped = shaped
fault_shaped object step put rest (Some values) shaped = tt

judged_shaped : (cells : Cells) (object step : ℕ) (puts : List Asked) (rest : Event) → IsShaped object step rest
    → IsShaped object step (judged cells object puts rest)
judged_shaped cells object step [] rest shaped = shaped
judged_shaped cells object step (put ∷ puts) rest shaped =
    fault_shaped object step put (judged cells object puts rest) (denied_by (end_in cells put) put)
    (judged_shaped cells object step puts rest shaped)

answer_shaped : (basin : Draft) (cells : Cells) (looked : List Look) (object step : ℕ) (answer : Solved)
    → IsShaped object step (answered basin cells looked object step answer)
answer_shaped basin cells looked object step Idle = refl
answer_shaped basin cells looked object step (Puts puts) =
    judged_shaped cells object step (asked_for basin object step puts)
    (dispatch_of cells looked object step (asked_for basin object step puts)) (refl, refl)
answer_shaped basin cells looked object step (Conflict place held solves) = tt
answer_shaped basin cells looked object step (OutOfRange place value) = tt

module _ (basin : Draft) (policy : Policy) (log : Log) where
  dispatch_made : (object step : ℕ) → standing log ≡ inside step → (event : Event)
      → dispatched basin (cells_of basin log) object step ≡ event → IsShaped object step event → IsMade basin policy log event
  dispatch_made object step at (placed cell value) is shaped = absurd shaped
  dispatch_made object step at (opened other) is shaped = absurd shaped
  dispatch_made object step at (closed other) is shaped = absurd shaped
  dispatch_made object step at (idle one other looked) is shaped = at ∙ ap inside (sym shaped)
  dispatch_made object step at (solved dispatch) is shaped =
      (at ∙ ap inside (sym shaped.1), ap₂ (dispatched basin (cells_of basin log)) shaped.0 shaped.1 ∙ is)
  dispatch_made object step at (fired firing) is shaped = absurd shaped
  dispatch_made object step at (fault why) is shaped = tt

  -- ---- a firing

  ended_made : (rule step : ℕ) → standing log ≡ inside step → (fire : Fire) (end : FireEnd)
      → policy.fire rule step (value_in (cells_of basin log)) ≡ Some fire
      → IsMade basin policy log (ended basin (cells_of basin log) rule step fire end)
  ended_made rule step at fire Done is = (at, (fire, is))
  ended_made rule step at fire Unknown is = (at, (fire, is))
  ended_made rule step at fire DividesByZero is = tt
  ended_made rule step at fire (EndsOutside value) is = tt

  made_of : (one event : Event) → Some one ≡ Some event → IsMade basin policy log one → IsMade basin policy log event
  made_of one event is made = subst (IsMade basin policy log) (same_Some _ _ is) made

  firing_made : (rule step : ℕ) → standing log ≡ inside step → (found : Option Fire) (event : Event)
      → policy.fire rule step (value_in (cells_of basin log)) ≡ found
      → option_map (λ (fire : Fire). ended basin (cells_of basin log) rule step fire fire.end) found ≡ Some event
      → IsMade basin policy log event
  firing_made rule step at None event e is = absurd (none-some _ is)
  firing_made rule step at (Some fire) event e is = made_of _ event is (ended_made rule step at fire fire.end e)

  after_made : (step : ℕ) → standing log ≡ inside step → (due : Option ℕ) (event : Event)
      → after_objects basin policy (cells_of basin log) log step due ≡ Some event → IsMade basin policy log event
  after_made step at None event is = made_of (closed step) event is tt
  after_made step at (Some rule) event is = by (nat_le basin.control.rule_limit (firings log rule)) is
    where
      by : (k : Bool) → (if k then Some (fault (RuleLimit (record { 0 = rule }) (record { 0 = step }) (firings log rule)))
          else firing_of basin policy (cells_of basin log) rule step) ≡ Some event → IsMade basin policy log event
      by true is = made_of _ event is tt
      by false is = firing_made rule step at (policy.fire rule step (value_in (cells_of basin log))) event refl is

  asked_made : (step object : ℕ) → standing log ≡ inside step → IsMade basin policy log (asked_next basin (cells_of basin log) log step object)
  asked_made step object at = by (nat_le basin.control.object_limit (dispatches log object))
    where
      by : (k : Bool) → IsMade basin policy log (if k then fault (ObjectLimit (record { 0 = object }) (record { 0 = step }) (dispatches log object))
          else dispatched basin (cells_of basin log) object step)
      by true = tt
      by false =
          dispatch_made object step at (dispatched basin (cells_of basin log) object step) refl
          (answer_shaped basin (cells_of basin log) (looks_of basin (cells_of basin log) object step) object step
          (solved_by basin (cells_of basin log) object step))

  next_made : (step : ℕ) → standing log ≡ inside step → (object : Option ℕ) (event : Event)
      → next_of basin policy (cells_of basin log) log step object ≡ Some event → IsMade basin policy log event
  next_made step at None event is = after_made step at (first_due basin policy (cells_of basin log) log) event is
  next_made step at (Some object) event is = made_of _ event is (asked_made step object at)

  opens : (last : ℕ) (event : Event) (k : Bool) → nat_lt last basin.control.stamps.count ≡ k
      → (if k then Some (opened (last + 1)) else None) ≡ Some event → IsMade basin policy log event
  opens last event true e is =
      made_of (opened (last + 1)) event is (record { first = omega arith; last = grind (arith, nat_tests, e) })
  opens last event false e is = absurd (none-some _ is)

  follows_made : (object : Option ℕ) (event : Event) (where_it : Standing) → standing log ≡ where_it
      → follows_by basin policy log object where_it ≡ Some event → IsMade basin policy log event
  follows_made object event (rests last) at is = opens last event (nat_lt last basin.control.stamps.count) refl is
  follows_made object event (inside step) at is = next_made step at object event is
  follows_made object event over at is = absurd (none-some _ is)

  pub may_made : (event : Event) → MayFollow basin policy log event → IsMade basin policy log event
  may_made event may = follows_made may.object event (standing log) refl may.is

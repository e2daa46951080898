-- Runs, as a relation: each event is the one that follows what stands before it.
use Rattle.std.specs.Prelude.{◌≡◌, ℕ, ◌+◌, ◌≤◌, ℤ, nat_lt, List, [], ◌∷◌, Option, Some, None, if◌then◌else◌}
use Rattle.rw_base.specs.declared.number.Cell.{Cell}
use Rattle.rw_model.specs.Draft.{Draft}
use Rattle.rw_run.specs.Log.{Event, placed, opened, closed, idle, solved, fired, fault, Log, cells_of}
use Rattle.rw_run.specs.Next.{Policy, next_of}
use Rattle.rw_run.specs.Waiting.{first_waiting}

-- where a run stands: it rests after the last closed timestep, it is inside an open one, or it is over by a fault
pub data Standing : Type 0 where
  rests : ℕ → Standing
  inside : ℕ → Standing
  over : Standing

-- by the newest event
abbrev pub standing : Log → Standing
standing [] = rests 0
standing (placed cell value ∷ log) = rests 0
standing (opened step ∷ log) = inside step
standing (closed step ∷ log) = rests step
standing (idle object step looked ∷ log) = inside step
standing (solved dispatch ∷ log) = inside dispatch.step
standing (fired firing ∷ log) = inside firing.step
standing (fault why ∷ log) = over

-- the event that follows where the run stands so, and this object is chosen to be dispatched next
abbrev pub follows_by : Draft → Policy → Log → Option ℕ → Standing → Option Event
follows_by basin policy log object (rests step) = if nat_lt step basin.control.stamps.count then Some (opened (step + 1)) else None
follows_by basin policy log object (inside step) = next_of basin policy (cells_of basin log) log step object
follows_by basin policy log object over = None

-- the one that has waited longest is chosen
abbrev pub follows_in : Draft → Policy → Log → Standing → Option Event
follows_in basin policy log = follows_by basin policy log (first_waiting basin log)

-- the event that follows a log, if one does
abbrev pub follows : Draft → Policy → Log → Option Event
follows basin policy log = follows_in basin policy log (standing log)

-- these events follow, the first of them first, and leave this log
abbrev pub Leads : Draft → Policy → Log → List Event → Log → Type 0
Leads basin policy old [] new = new ≡ old
Leads basin policy old (event ∷ events) new = (follows basin policy old ≡ Some event) × Leads basin policy (event ∷ old) events new

-- the inputs, placed one after another
abbrev pub with_inputs : Log → List (Cell × ℤ) → Log
with_inputs log [] = log
with_inputs log (input ∷ inputs) = with_inputs (placed input.0 input.1 ∷ log) inputs

-- a run is over once the last timestep is closed, or by a fault. Where a rule's code is stuck it isn't
abbrev pub IsOver : Draft → Standing → Type 0
IsOver basin (rests step) = basin.control.stamps.count ≤ step
IsOver basin (inside step) = ⊥
IsOver basin over = Unit {0}

-- the whole run of these inputs: they are placed, and event follows event until it is over
pub record IsRun (basin : Draft) (policy : Policy) (inputs : List (Cell × ℤ)) (log : Log) : Type 0 where
  pub events : List Event
  pub leads : Leads basin policy (with_inputs [] inputs) events log
  pub end : IsOver basin (standing log)

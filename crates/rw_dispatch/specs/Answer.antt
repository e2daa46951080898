-- What the answer of a dispatch tells of the event that it is.
use Rattle.std.specs.Prelude.{◌≡◌, ℕ, List, []}
use Rattle.rw_model.specs.Draft.{Draft}
use Rattle.rw_method.specs.declared.put.Put.{Put}
use Rattle.rw_method.specs.declared.solved.Solved.{Solved as Solution}
use Rattle.rw_method.specs.declared.solved.Solved.TheVariants.{Puts}
use Rattle.rw_firing.specs.declared.look.Look.{Look}
use Rattle.rw_run.specs.declared.fault.RunFault.TheVariants.{Conflict as FaultConflict, ObjectOutOfRange}
use Rattle.rw_run.specs.Log.{Asked, Cells, Event, fault, idle, solved, written_by}
use Rattle.rw_run.specs.Dispatch.{asked_for}
use Rattle.rw_dispatch.specs.declared.dispatched.Dispatched.{Dispatched}
use Rattle.rw_dispatch.specs.declared.dispatched.Dispatched.TheVariants.{Idle, Solved, Conflict, OutOfRange}
use Rattle.rw_dispatch.specs.declared.dispatch_end.DispatchEnd.{DispatchEnd}
use Rattle.rw_dispatch.specs.declared.dispatch_end.DispatchEnd.TheVariants.{Idle as EndsIdle, Solved as EndsSolved, Conflict as EndsInConflict, OutOfRange as EndsOutOfRange}
use Rattle.rw_dispatch.specs.Putting.{ArePuts, puts_made}

-- the event, where the object had these looks at the timestep
abbrev pub event_of : Draft → List Look → ℕ → ℕ → Dispatched → Event
event_of basin looked object step Idle = idle object step looked
event_of basin looked object step (Solved asked written) = solved (record {
  object = object;
  step = step;
  looked = looked;
  asked = asked_for basin object step asked;
  written = asked_for basin object step written;
})
event_of basin looked object step (Conflict slot held solves) =
    fault (FaultConflict (record { 0 = object }) slot (record { 0 = step }) held solves)
event_of basin looked object step (OutOfRange slot value) =
    fault (ObjectOutOfRange (record { 0 = object }) slot (record { 0 = step }) value)

-- the puts that were written
abbrev pub written_in : Dispatched → List Put
written_in (Solved asked written) = written
written_in answer = []

-- the answer tells of the event, and what was written are puts that the object may make
pub record Tells (basin : Draft) (looked : List Look) (object step : ℕ) (event : Event) (answer : Dispatched) : Type 0 where
  pub is : event ≡ event_of basin looked object step answer
  pub puts : ArePuts basin object (written_in answer)

-- ---- by how a dispatch ended

-- the puts that a method asks for
abbrev pub asked_by_solution : Solution → List Put
asked_by_solution (Puts asked) = asked
asked_by_solution solution = []

-- the answer of one that ended so
abbrev pub answer_of : DispatchEnd → List Put → List Put → Dispatched
answer_of EndsIdle asked written = Idle
answer_of EndsSolved asked written = Solved asked written
answer_of (EndsInConflict slot held solves) asked written = Conflict slot held solves
answer_of (EndsOutOfRange slot value) asked written = OutOfRange slot value

-- the event is that of a dispatch that ended so
pub record Ends (basin : Draft) (looked : List Look) (object step : ℕ) (event : Event) (end : DispatchEnd) : Type 0 where
  pub asked : List Put
  pub written : List Put
  pub is : event ≡ event_of basin looked object step (answer_of end asked written)

-- the event is that of a dispatch that ended so, with these puts, and this is what it writes
pub record HasEnded (basin : Draft) (cells : Cells) (looked : List Look) (object step : ℕ) (event : Event) (asked : List Put) (end : DispatchEnd)
    (written : List Asked) : Type 0 where
  pub is : event ≡ event_of basin looked object step (answer_of end asked (puts_made basin cells object step asked))
  pub writes : written ≡ written_by (event_of basin looked object step (answer_of end asked (puts_made basin cells object step asked)))

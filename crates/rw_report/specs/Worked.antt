-- Worked texts.
use Rattle.std.specs.Prelude.{ℕ, ℤ, pos, negsuc, List, [], ◌∷◌, None, Some}
use Rattle.rw_base.specs.declared.number.Cell.{Cell}
use Rattle.rw_model.specs.declared.writer.Writer.TheVariants.{Object}
use Rattle.rw_model.specs.Draft.{Draft}
use Rattle.rw_inputs.specs.Inputs.{Inputs}
use Rattle.rw_run.specs.declared.trace.TraceEvent.{TraceEvent}
use Rattle.rw_run.specs.declared.trace.TraceEvent.TheVariants.{Opened, Idle, Solve, Written, Closed}
use Rattle.rw_run.specs.Dispatch.{cell_at}
use Rattle.rw_run.specs.Frame.{log_after}
use Rattle.rw_run.specs.Log.{Event}
use Rattle.rw_run.specs.RunOf.{trace_of}
use Rattle.rw_run.specs.Runs.{with_inputs}
use Rattle.rw_report.specs.Lines.{trace_words}
use Rattle.rw_report.specs.Outcome.{outcome_by}
use Rattle.rw_report.specs.Why.{why_of}

-- the trace of these events, the first of them first
abbrev pub traced : Draft → List Event → List ℕ
traced basin events = trace_words basin (trace_of (log_after events []))

-- an object is dispatched twice
abbrev pub solved_twice : List TraceEvent
solved_twice =
    Opened (record { 0 = 1 }) ∷ Idle (record { 0 = 1 }) ∷ Solve (record { 0 = 1 }) ∷
    Written (record { 0 = 2 }) (record { 0 = 1 }) (record { value = negsuc 4; number = 2; writer = Object (record { 0 = 1 }) }) ∷
    Closed (record { 0 = 1 }) ∷ []

-- nothing is given
abbrev pub no_inputs : Inputs
no_inputs = record { columns = [] }

-- X is given as 5 on the first day
abbrev pub five_given : Inputs
five_given = record { columns = [] ∷ (None ∷ Some (pos 5) ∷ []) ∷ [] }

-- why the slot holds what it holds at the timestep, after these inputs and events
abbrev pub asked : Draft → Inputs → List (Cell × ℤ) → List Event → (slot step : ℕ) → List ℕ
asked basin inputs placings events slot step =
    why_of basin inputs (outcome_by basin (log_after events (with_inputs [] placings))) (cell_at slot step)

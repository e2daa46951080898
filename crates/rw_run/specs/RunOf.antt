-- What a log comes to: how it ended, how many timesteps were closed, and the lines of its trace.
use Rattle.std.specs.Prelude.{◌≡◌, ℕ, ◌+◌, List, [], ◌∷◌, ◌++◌, map, IfSome}
use Rattle.rw_base.specs.declared.number.Cell.{Cell}
use Rattle.rw_model.specs.Draft.{Draft}
use Rattle.rw_series.specs.Series.{held, IsSeriesOf}
use Rattle.rw_run.specs.declared.run.Run.{Run}
use Rattle.rw_run.specs.declared.run.RunEnd.{RunEnd}
use Rattle.rw_run.specs.declared.run.RunEnd.TheVariants.{Settled, Fault}
use Rattle.rw_run.specs.declared.trace.TraceEvent.{TraceEvent}
use Rattle.rw_run.specs.declared.trace.TraceEvent.TheVariants.{Opened, Idle, Solve, Fire, Written, Closed, Fault as FaultLine}
use Rattle.rw_run.specs.Log.{Asked, Event, placed, opened, closed, idle, solved, fired, fault, Log, cells_of}

-- ---- the trace

abbrev pub line_of : Asked → TraceEvent
line_of put = Written put.cell.slot put.cell.step put.content

-- the lines of the trace for an event
abbrev pub lines : Event → List TraceEvent
lines (placed cell value) = []
lines (opened step) = Opened (record { 0 = step }) ∷ []
lines (closed step) = Closed (record { 0 = step }) ∷ []
lines (idle object step looked) = Idle (record { 0 = object }) ∷ []
lines (solved dispatch) = Solve (record { 0 = dispatch.object }) ∷ map line_of dispatch.written
lines (fired firing) = Fire (record { 0 = firing.rule }) firing.is_done firing.count ∷ map line_of firing.written
lines (fault why) = FaultLine why ∷ []

abbrev pub trace_of : Log → List TraceEvent
trace_of [] = []
trace_of (event ∷ log) = trace_of log ++ lines event

-- ---- the end

-- a log that ended in no fault settled
abbrev pub end_of : Log → RunEnd
end_of [] = Settled
end_of (fault why ∷ log) = Fault why
end_of (event ∷ log) = Settled

-- the last timestep that was closed, 0 where none was
abbrev pub last_closed : Log → ℕ
last_closed [] = 0
last_closed (closed step ∷ log) = step
last_closed (event ∷ log) = last_closed log

-- how many timesteps were opened
abbrev pub opened_in : Log → ℕ
opened_in [] = 0
opened_in (opened step ∷ log) = opened_in log + 1
opened_in (event ∷ log) = opened_in log

-- the same by how a run ended and its last closed timestep: those that were closed, and the one in which a fault came
abbrev pub opened_by : RunEnd → ℕ → ℕ
opened_by Settled last = last
opened_by (Fault why) last = last + 1

-- a run that came to what this log comes to
pub record IsRunOf (basin : Draft) (log : Log) (run : Run) : Type 0 where
  pub end : run.end ≡ end_of log
  pub closed_steps : run.closed ≡ last_closed log
  pub made : IsSeriesOf basin run.series
  pub cells : (cell : Cell) → held run.series cell ≡ cells_of basin log cell
  pub trace : IfSome run.trace (λ told. told ≡ trace_of log)

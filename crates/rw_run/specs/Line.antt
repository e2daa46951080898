-- What a kept line of a trace tells.
use Rattle.rw_run.specs.declared.line.Line.{Line}
use Rattle.rw_run.specs.declared.line.Line.TheVariants.{Opened, Idle, Solve, Fire, Written, Closed, Fault}
use Rattle.rw_run.specs.declared.trace.TraceEvent.{TraceEvent}
use Rattle.rw_run.specs.declared.trace.TraceEvent.TheVariants as Told

abbrev pub line_event : Line → TraceEvent
line_event (Opened step) = Told.Opened step
line_event (Idle object) = Told.Idle object
line_event (Solve object) = Told.Solve object
line_event (Fire done rule count) = Told.Fire rule done count
line_event (Written slot step number writer value) = Told.Written slot step (record { value = value; number = number; writer = writer })
line_event (Closed step) = Told.Closed step
line_event (Fault why) = Told.Fault why.value

-- The lines of a trace, none where it isn't kept.
use Rattle.std.specs.Prelude.{Bool, true, false, List, [], ◌++◌, Option, Some, None, option_map}
use Rattle.rw_base.specs.declared.number.ObjectNo.{ObjectNo}
use Rattle.rw_run.specs.declared.trace.TraceEvent.{TraceEvent}
use Rattle.rw_run.specs.declared.trace.TraceEvent.TheVariants.{Idle, Solve, Written}
use Rattle.rw_run.specs.declared.write.Write.{Write}

-- with more lines, where it is kept
abbrev pub told : Option (List TraceEvent) → List TraceEvent → Option (List TraceEvent)
told trace more = option_map (λ lines. lines ++ more) trace

abbrev pub lines_in : Option (List TraceEvent) → List TraceEvent
lines_in None = []
lines_in (Some lines) = lines

-- what a line says to be written, if it says that
abbrev pub write_of : TraceEvent → Option Write
write_of (Written slot step content) = Some (record { cell = record { slot = slot; step = step }; content = content })
write_of line = None

-- whose dispatch a line tells, and whether it put something, if it tells one
abbrev pub dispatch_told : TraceEvent → Option (ObjectNo × Bool)
dispatch_told (Idle object) = Some (object, false)
dispatch_told (Solve object) = Some (object, true)
dispatch_told line = None

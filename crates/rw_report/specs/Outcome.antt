-- What is told of a run.
use Rattle.std.specs.Prelude.{ℕ, List}
use Rattle.rw_model.specs.Draft.{Draft}
use Rattle.rw_series.specs.Series.{held}
use Rattle.rw_run.specs.declared.run.Run.{Run}
use Rattle.rw_run.specs.declared.run.RunEnd.{RunEnd}
use Rattle.rw_run.specs.declared.trace.TraceEvent.{TraceEvent}
use Rattle.rw_run.specs.Log.{Cells, Log, cells_of}
use Rattle.rw_run.specs.RunOf.{end_of, last_closed, trace_of}
use Rattle.rw_run.specs.Trace.{lines_in}

-- how it ended, its last closed timestep, what the cells hold at its end, and the lines of its trace
pub record RunOutcome : Type 0 where
  pub end : RunEnd
  pub closed : ℕ
  pub cells : Cells
  pub lines : List TraceEvent

abbrev pub outcome_of : Run → RunOutcome
outcome_of run = record { end = run.end; closed = run.closed; cells = held run.series; lines = lines_in run.trace }

-- the same by the events of a run
abbrev pub outcome_by : Draft → Log → RunOutcome
outcome_by basin log = record {
  end = end_of log;
  closed = last_closed log;
  cells = cells_of basin log;
  lines = trace_of log;
}

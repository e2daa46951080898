-- What an engine is seen as.
use Rattle.std.specs.Prelude.{ℕ, List, Option}
use Rattle.rw_series.specs.Series.{Series}
use Rattle.rw_rules.specs.Rules.{Rules}
use Rattle.rw_run.specs.declared.held.Held.{Held}
use Rattle.rw_run.specs.declared.run.RunEnd.{RunEnd}
use Rattle.rw_run.specs.declared.trace.TraceEvent.{TraceEvent}

-- of how many objects it is, its rules, what the cells hold, the lines of its trace, if that is kept, the last closed timestep, how it
-- stands, at what the last timestep looked and the lines of that one, if they are noted, and the turn of the dispatch that comes next,
-- counted from 0
pub record Engine : Type 0 where
  pub objects : ℕ
  pub rules : Rules
  pub series : Series
  pub trace : Option (List TraceEvent)
  pub closed : ℕ
  pub end : RunEnd
  pub noted : Option (List Held)
  pub lines : Option (List TraceEvent)
  pub turns : ℕ

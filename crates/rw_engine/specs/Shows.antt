-- The log that an engine stands for.
use Rattle.std.specs.Prelude.{◌≡◌, ℕ, ◌+◌, ◌≤◌, length, IfSome, IsSome, List, Ok, Option, is_some}
use Rattle.rw_base.specs.declared.number.Cell.{Cell}
use Rattle.rw_model.specs.Draft.{Draft}
use Rattle.rw_model.specs.Basin.{IsBasin}
use Rattle.rw_series.specs.Series.{held}
use Rattle.rw_run.specs.Log.{Event, closed, fault, Log, cells_of}
use Rattle.rw_run.specs.Runs.{standing, rests}
use Rattle.rw_run.specs.RunOf.{trace_of, end_of, last_closed}
use Rattle.rw_run.specs.declared.held.Held.{Held}
use Rattle.rw_run.specs.declared.trace.TraceEvent.{TraceEvent}
use Rattle.rw_dispatch.specs.Stage.{AreBounded, IsHeldIn}
use Rattle.rw_record.specs.Back.{AreCellsOf}
use Rattle.rpl_verify.specs.Verified.{Accepted, verified}
use Rattle.rw_rules.specs.Rules.{IsRulesOf}
use Rattle.rw_engine.specs.Engine.{Engine}
use Rattle.rw_engine.specs.declared.step_end.StepEnd.{StepEnd}
use Rattle.rw_engine.specs.declared.step_end.StepEnd.TheVariants.{Closed as IsClosed, Fault as IsFault}

-- the lines of a timestep are noted exactly where it is noted at what that looks, and both where a trace is kept
pub record NotesAlike (noted : Option (List Held)) (lines trace : Option (List TraceEvent)) : Type 0 where
  pub same : is_some lines ≡ is_some noted
  pub traced : IsSome trace → IsSome noted

-- an engine made for the basin and a policy that is accepted for it: its slots hold values that they can have
pub record IsEngineOf (basin : Draft) (policy : Accepted) (engine : Engine) : Type 0 where
  pub valid : IsBasin basin
  pub fits : verified basin policy.blocks ≡ Ok policy
  pub objects : engine.objects ≡ length basin.objects
  pub rules : IsRulesOf basin policy engine.rules
  pub series : IsHeldIn basin engine.series
  pub closed_steps : engine.closed ≤ basin.control.stamps.count
  pub notes : NotesAlike engine.noted engine.lines engine.trace

-- for whatever policy it was made, it can pass a timestep again by its record
pub record CanReplay (basin : Draft) (engine : Engine) : Type 0 where
  pub series : IsHeldIn basin engine.series
  pub notes : NotesAlike engine.noted engine.lines engine.trace

-- an engine keeps a trace still exactly where it kept one, and so with what it notes
pub record KeepsOn (old new : Engine) : Type 0 where
  pub trace : is_some new.trace ≡ is_some old.trace
  pub noted : is_some new.noted ≡ is_some old.noted

-- what an engine shows of a log: what the cells hold, its trace, if that is kept, the last closed timestep, and the fault if there is one
pub record Shows (basin : Draft) (engine : Engine) (log : Log) : Type 0 where
  pub cells : (cell : Cell) → held engine.series cell ≡ cells_of basin log cell
  pub trace : IfSome engine.trace (λ lines. lines ≡ trace_of log)
  pub closed_steps : engine.closed ≡ last_closed log
  pub end : engine.end ≡ end_of log

-- the log rests, and this is the timestep after its last closed one
pub record IsBefore (basin : Draft) (step : ℕ) (log : Log) : Type 0 where
  pub last : ℕ
  pub rest : standing log ≡ rests last
  pub next_one : step ≡ last + 1
  pub exists : step ≤ basin.control.stamps.count

-- an engine of the basin can show the log, behind the timestep before this one: its cells hold what they can, and that one was closed last
pub record CanShow (basin : Draft) (step : ℕ) (log : Log) : Type 0 where
  pub cells : AreCellsOf basin (cells_of basin log)
  pub bounded : AreBounded basin (cells_of basin log)
  pub closed_steps : step ≡ last_closed log + 1

abbrev pub EndsBy : StepEnd → ℕ → Event → Type 0
EndsBy IsClosed step event = event ≡ closed step
EndsBy (IsFault why) step event = event ≡ fault why

-- the last closed timestep once a timestep ended so, where it was this before
abbrev pub closed_by : StepEnd → ℕ → ℕ → ℕ
closed_by IsClosed step before = step
closed_by (IsFault why) step before = before

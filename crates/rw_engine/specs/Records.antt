-- What an engine has noted of a timestep, and the record that it makes of it.
use Rattle.std.specs.Prelude.{◌≡◌, ◌⊎◌, ℕ, ◌<◌, List, [], ◌∷◌, All, IfSome, is_some, Option, Some, None, length}
use Rattle.std.specs.List.{flat_map}
use Rattle.rw_model.specs.Draft.{Draft}
use Rattle.rw_dispatch.specs.Writes.{AreWrites}
use Rattle.rw_run.specs.Log.{Asked, Event, Log, cells_of, opened, written_by}
use Rattle.rw_run.specs.Next.{Policy}
use Rattle.rw_run.specs.Reuse.{most_kept}
use Rattle.rw_run.specs.RunOf.{lines}
use Rattle.rw_run.specs.Step.{cell_count, reached_by}
use Rattle.rw_run.specs.Timestep.{AreLooked, IsTimestep}
use Rattle.rw_run.specs.declared.held.Held.{Held}
use Rattle.rw_run.specs.declared.trace.TraceEvent.{TraceEvent}
use Rattle.rw_run.specs.declared.trace.TraceEvent.TheVariants.{Written}
use Rattle.rw_record.specs.Noted.{AreOnce}
use Rattle.rw_record.specs.Record.{AreRisingCells, StepRecord}
use Rattle.rw_engine.specs.Engine.{Engine}

-- what a line says to be written
abbrev pub puts_of_line : TraceEvent → List Asked
puts_of_line (Written slot step content) = record { cell = record { slot = slot; step = step }; content = content } ∷ []
puts_of_line line = []

abbrev pub puts_in : List TraceEvent → List Asked
puts_in told = flat_map puts_of_line told

-- what lines say to be written may be written
abbrev pub CanWriteLine : Draft → TraceEvent → Type 0
CanWriteLine basin line = AreWrites basin (puts_of_line line)

abbrev pub CanWriteLines : Draft → List TraceEvent → Type 0
CanWriteLines basin told = All (CanWriteLine basin) told

-- the lines of a timestep, that of its opening the first
abbrev pub lines_of_step : ℕ → List Event → List TraceEvent
lines_of_step step events = flat_map lines (opened step ∷ events)

-- what these events write may be written
abbrev pub CanWriteAll : Draft → List Event → Type 0
CanWriteAll basin events = All (λ event. AreWrites basin (written_by event)) events

-- an engine has noted at what these events of a timestep looked or what their puts reach, each cell once, with what it held before the
-- timestep, and their lines
pub record HasNoted (basin : Draft) (step : ℕ) (old : Log) (events : List Event) (engine : Engine) : Type 0 where
  pub cells : List Held
  pub cells_are : engine.noted ≡ Some cells
  pub looked : AreLooked basin (cells_of basin old) events cells
  pub once : AreOnce cells
  pub lines_are : engine.lines ≡ Some (lines_of_step step events)
  pub can : CanWriteLines basin (lines_of_step step events)

-- a record has the same cells, rising, with what they held, and the same lines, and what they say may be written
pub record RecordsThese (basin : Draft) (step : ℕ) (old : Log) (events : List Event) (kept : StepRecord) : Type 0 where
  pub step_is : kept.step ≡ step
  pub looked : AreLooked basin (cells_of basin old) events kept.looked
  pub rising : AreRisingCells kept.looked
  pub lines_are : kept.lines ≡ lines_of_step step events
  pub can : CanWriteLines basin kept.lines

-- it stands for some timestep of the policy
pub record Records (basin : Draft) (policy : Policy) (kept : StepRecord) : Type 0 where
  pub old : Log
  pub first : Event
  pub events : List Event
  pub timestep : IsTimestep basin policy kept.step old first events
  pub these : RecordsThese basin kept.step old (first ∷ events) kept

-- a timestep of these events has too many cells or lines to be kept
abbrev pub IsTooLarge : Draft → ℕ → List Event → Type 0
IsTooLarge basin step events = (most_kept < cell_count (flat_map (reached_by basin) events)) ⊎ (most_kept < length (lines_of_step step events))

-- none exactly where it has, and otherwise its record
abbrev pub RecordsOrNot : Draft → ℕ → Log → List Event → Option StepRecord → Type 0
RecordsOrNot basin step old events None = IsTooLarge basin step events
RecordsOrNot basin step old events (Some kept) = (¬ IsTooLarge basin step events) × RecordsThese basin step old events kept

-- an engine hands the lines of the timestep over that it noted, and all else is as it was
pub record HandsOver (old new : Engine) : Type 0 where
  pub rest : new ≡ record old { lines = new.lines }
  pub lines : is_some new.lines ≡ is_some old.lines

-- an engine has no line of a timestep noted, and so no timestep
abbrev pub IsUntold : Engine → Type 0
IsUntold engine = IfSome engine.lines (λ told. told ≡ [])

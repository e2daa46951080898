-- Within the crate: how far the lines of a trace are told.
use Rattle.std.specs.Prelude.{◌≡◌, ℕ, List, [], ◌∷◌, ◌++◌, map, true}
use Rattle.std.specs.List.{flat_map}
use Rattle.std.specs.Option.{option_or}
use Rattle.rw_base.specs.declared.number.Cell.{Cell}
use Rattle.rw_model.specs.Draft.{Draft}
use Rattle.rw_model.specs.Turn.{IsStep}
use Rattle.rw_series.specs.Series.{held}
use Rattle.rw_dispatch.specs.Stage.{IsHeldIn}
use Rattle.rw_dispatch.specs.Writes.{AreWrites}
use Rattle.rw_run.specs.declared.trace.TraceEvent.{TraceEvent}
use Rattle.rw_run.specs.Choice.{MayLead}
use Rattle.rw_run.specs.Log.{Asked, Event, Log, cells_of, last_put}
use Rattle.rw_run.specs.Next.{Policy}
use Rattle.rw_run.specs.RunOf.{line_of, lines}
use Rattle.rw_run.specs.Runs.{Standing, inside, over, rests, standing}
use Rattle.rw_asked.specs.Asked.{asked_after}
use Rattle.rw_asked.specs.Words.{asked_lines_words}
use Rattle.rw_retold.specs.declared.walk.Walk.{Walk}

-- its slots hold values that they can have, and its dispatches keep what they ask for
pub record IsWalkOf (basin : Draft) (walk : Walk) : Type 0 where
  pub series : IsHeldIn basin walk.series
  pub keeps : walk.work.keeps ≡ true

-- within a timestep it is that one
abbrev pub IsAtStep : Draft → Standing → ℕ → Type 0
IsAtStep basin (rests last) step = Unit {0}
IsAtStep basin (inside this) step = (this ≡ step) × IsStep basin step
IsAtStep basin over step = Unit {0}

-- these lines are left of the log's trace: those of puts of the event that was told last, which aren't written yet, and those of the
-- events that follow it. With what is told of these the text is the whole
pub record IsWalkedTo (basin : Draft) (policy : Policy) (left : List TraceEvent) (log : Log) (whole : List ℕ) (walk : Walk)
    (text : List ℕ) : Type 0 where
  pub now : Log
  pub events : List Event
  pub pending : List Asked
  pub leads : MayLead basin policy now events log
  pub lines_are : left ≡ map line_of pending ++ flat_map lines events
  pub cells : (cell : Cell) → cells_of basin now cell ≡ option_or (last_put basin pending cell) (held walk.series cell)
  pub can : AreWrites basin pending
  pub at : IsAtStep basin (standing now) walk.step.0
  pub text_is : text ++ asked_lines_words basin (asked_after basin policy now events) ≡ whole

-- What is noted of a timestep that goes on.
use Rattle.std.specs.Prelude.{◌≡◌, IsFalse, List}
use Rattle.rw_base.specs.declared.number.Cell.{Cell}
use Rattle.rw_model.specs.Draft.{Draft}
use Rattle.rw_run.specs.Log.{Cells, Event}
use Rattle.rw_run.specs.Timestep.{AreLooked}
use Rattle.rw_run.specs.declared.held.Held.{Held}
use Rattle.rw_record.specs.Noted.{AreHeld, AreOnce, is_noted}

-- what cells held before can be put back: each noted one with what it held, and each other one holds that still
pub record CanTakeBack (before now : Cells) (noted : List Held) : Type 0 where
  pub held : AreHeld before noted
  pub same : (cell : Cell) → IsFalse (is_noted noted cell) → now cell ≡ before cell

-- since a timestep was opened, where the cells held this before, these events led to what they hold now: at what they looked and
-- what their puts reach is noted, each cell once, and no other cell has changed
pub record Notes (basin : Draft) (before now : Cells) (events : List Event) (noted : List Held) : Type 0 where
  pub looked : AreLooked basin before events noted
  pub once : AreOnce noted
  pub same : (cell : Cell) → IsFalse (is_noted noted cell) → now cell ≡ before cell

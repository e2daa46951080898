-- What the cells of a basin hold.
use Rattle.std.specs.Prelude.{◌≡◌, ℕ, ◌≤◌, ◌*◌, ◌==◌, Bool, ◌&&◌, IsTrue, if◌then◌else◌, List, length, Option}
use Rattle.rw_base.specs.declared.number.Cell.{Cell}
use Rattle.rw_model.specs.declared.content.Content.{Content}
use Rattle.rw_model.specs.Objects.{all_slots}
use Rattle.rw_model.specs.Draft.{Draft, IsSlot}
use Rattle.rw_model.specs.Links.{is_among, group_of}
use Rattle.rw_series.specs.Cells.{kept_at}
use Rattle.rw_series.specs.Columns.{column_of, AreColumns, HaveColumns}

-- contents for so many slots at so many timesteps, in so many columns
pub record Series : Type 0 where
  pub slots : ℕ
  pub steps : ℕ
  pub columns : List ℕ
  pub width : ℕ
  pub cells : List (Option Content)

-- Within the crate: each slot has a column, and each column a cell for each timestep.
pub record KeepsCells (steps width : ℕ) (columns : List ℕ) (cells : ℕ) : Type 0 where
  pub whole : cells ≡ width * steps
  pub have : HaveColumns width columns

-- what a cell holds, which is nothing where it is unknown
abbrev pub held : Series → Cell → Option Content
held series cell = kept_at series.width series.steps series.cells (column_of series.columns cell.slot.0) cell.step.0

-- a slot of the basin at a timestep of its run
pub record IsCell (basin : Draft) (cell : Cell) : Type 0 where
  pub slot : IsSlot basin.objects cell.slot.0
  pub first : 1 ≤ cell.step.0
  pub last : cell.step.0 ≤ basin.control.stamps.count

-- the second cell is of a slot that carries one value with the slot of the first, at the same timestep
abbrev pub is_shared : Draft → Cell → Cell → Bool
is_shared basin cell other = is_among other.slot.0 (group_of basin.objects basin.links cell.slot.0) && other.step.0 == cell.step.0

-- a series made for the basin: it has its slots and timesteps, and slots that carry one value hold the same
pub record IsSeriesOf (basin : Draft) (series : Series) : Type 0 where
  pub slots : series.slots ≡ length (all_slots basin.objects)
  pub steps : series.steps ≡ basin.control.stamps.count
  pub columns : AreColumns basin series.slots series.width series.columns
  pub shared : (cell other : Cell) → IsCell basin cell → IsTrue (is_shared basin cell other) → held series cell ≡ held series other

-- every cell that shares its value with this one holds the content, and all others hold what they held
abbrev pub Sets : Draft → Cell → Option Content → Series → Series → Type 0
Sets basin cell content old new =
    (other : Cell) → held new other ≡ (if is_shared basin cell other then content else held old other)

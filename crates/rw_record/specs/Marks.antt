-- A mark for each cell of so many slots and timesteps, side by side.
use Rattle.std.specs.Prelude.{◌≡◌, ℕ, ◌*◌, ◌-◌, ◌≤◌, Bool, false, IsTrue, List, length, slice_index_or}
use Rattle.rw_base.specs.declared.number.Cell.{Cell}
use Rattle.rw_series.specs.Cells.{is_kept, position_of}
use Rattle.rw_run.specs.Dispatch.{cell_at}
use Rattle.rw_run.specs.declared.held.Held.{Held}
use Rattle.rw_record.specs.Noted.{AreOnce, is_noted}

-- there is a mark for the cell
abbrev pub has_mark : ℕ → ℕ → Cell → Bool
has_mark slots steps cell = is_kept slots steps cell.slot.0 cell.step.0

-- the cell is marked
abbrev pub is_cell_marked : ℕ → List Bool → Cell → Bool
is_cell_marked slots marks cell = slice_index_or marks (position_of slots cell.slot.0 cell.step.0) false

-- each cell is noted once, and marked exactly where it is noted, if there is a mark for it
pub record KeepsMarks (slots steps : ℕ) (marks : List Bool) (noted : List Held) : Type 0 where
  pub many : length marks ≡ slots * steps
  pub marked : (cell : Cell) → IsTrue (has_mark slots steps cell) → is_cell_marked slots marks cell ≡ is_noted noted cell
  pub once : AreOnce noted

-- these marks tell of the cells at a timestep whether they are noted, from slot 1 on
abbrev pub TellNoted : List Held → ℕ → List Bool → Type 0
TellNoted noted step row = (slot : ℕ) → 1 ≤ slot → slot ≤ length row → slice_index_or row (slot - 1) false ≡ is_noted noted (cell_at slot step)

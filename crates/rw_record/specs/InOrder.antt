-- Within the crate: cells that are picked by their places.
use Rattle.std.specs.Prelude.{◌≡◌, ◌⊎◌, ◌<◌, ◌≤◌, ℕ, List, Contains, None, Option, Some, filter_map, length, slice_get}
use Rattle.rw_base.specs.declared.number.Cell.{Cell}
use Rattle.rw_run.specs.declared.held.Held.{Held}
use Rattle.rw_record.specs.Record.{AreRisingCells, IsBelow}

-- the cell is below the other one, or the same
abbrev pub IsBelowOrSame : Cell → Cell → Type 0
IsBelowOrSame cell other = (cell.slot.0 < other.slot.0) ⊎ ((cell.slot.0 ≡ other.slot.0) × (cell.step.0 ≤ other.step.0))

-- by slot, and then by timestep
abbrev pub rank_of : Option Held → ℕ × ℕ
rank_of None = (0, 0)
rank_of (Some one) = (one.cell.slot.0, one.cell.step.0)

abbrev pub rank_in : List Held → ℕ → ℕ × ℕ
rank_in items place = rank_of (slice_get items place)

-- the cells that stand in these places
abbrev pub picked_out : List Held → List ℕ → List Held
picked_out items order = filter_map (slice_get items) order

-- it stands in a place, and its cell is above another one
pub record RisesAbove (items : List Held) (place : ℕ) (last : Cell) (one : Held) : Type 0 where
  pub there : slice_get items place ≡ Some one
  pub above : IsBelow last one.cell

-- there is a cell in each place, and they rise
pub record RisesSo (items : List Held) (order : List ℕ) : Type 0 where
  pub many : length (picked_out items order) ≡ length order
  pub up : AreRisingCells (picked_out items order)

-- and there are as many places as cells
pub record RisesAll (items : List Held) (order : List ℕ) : Type 0 where
  pub all : length order ≡ length items
  pub so : RisesSo items order

-- so far, up to this one
pub record RisesTo (items : List Held) (order : List ℕ) (last : Cell) : Type 0 where
  pub so : RisesSo items order
  pub under : (one : Held) → Contains (picked_out items order) one → IsBelowOrSame one.cell last

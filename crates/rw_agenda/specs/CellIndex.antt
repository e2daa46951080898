-- Which rules watch a cell, at which they looked: by watches each of which leads to the one before it.
use Rattle.std.specs.Prelude.{ℕ, zero, suc, ◌*◌, ◌%◌, ◌+◌, ◌-◌, ◌<◌, ◌==◌, ◌&&◌, ◌||◌, Bool, false, List, length, Option, option_map, unwrap_or, slice_index_or}
use Rattle.rw_base.specs.declared.number.Cell.{Cell}
use Rattle.rw_model.specs.Objects.{numbered}
use Rattle.rw_agenda.specs.declared.limits.TheConstants.{INDEX_STEPS}
use Rattle.rw_agenda.specs.declared.watch.Watch.{Watch}

-- for each place of cells of so many slots the number of its newest watch, which is past where it has none; the watches; how many
-- are past, behind which they are numbered; for how many there is room; and whether there was none for one of them
pub record CellIndex : Type 0 where
  pub slots : ℕ
  pub newest : List ℕ
  pub watches : List Watch
  pub past : ℕ
  pub room : ℕ
  pub is_full : Bool

-- the place of a cell in the index, which it shares with those of its slot that lie so many timesteps away
abbrev pub index_position : ℕ → Cell → ℕ
index_position slots cell = cell.step.0 % INDEX_STEPS * slots + cell.slot.0

-- there is room for a watch of the cell
pub record CanWatch (index : CellIndex) (cell : Cell) : Type 0 where
  pub known : index_position index.slots cell < length index.newest
  pub room : length index.watches < index.room

-- the watch of a number, where so many are past
abbrev pub watch_numbered : List Watch → ℕ → ℕ → Option Watch
watch_numbered watches past number = numbered watches (number - past)

-- the rule in a place is met at a timestep, going from the watch of this number so many times to the one before
abbrev pub is_met : List Watch → ℕ → ℕ → ℕ → ℕ → ℕ → Bool
is_met watches past zero number rule step = false
is_met watches past (suc times) number rule step =
    unwrap_or (option_map (λ (watch : Watch). (watch.rule == rule && watch.step == step) || is_met watches past times watch.before rule step)
    (watch_numbered watches past number)) false

-- the number of the newest watch of a cell's place, which is past where there is none
abbrev pub newest_at : CellIndex → Cell → ℕ
newest_at index cell = slice_index_or index.newest (index_position index.slots cell) 0

-- there is a watch of the cell by the rule in a place
abbrev pub has_watch : CellIndex → Cell → ℕ → Bool
has_watch index cell rule = is_met index.watches index.past (length index.watches) (newest_at index cell) rule cell.step.0

-- the rule in a place watches the cell. Where there was no room for a watch, each rule watches each cell
abbrev pub is_watching : CellIndex → Cell → ℕ → Bool
is_watching index cell rule = index.is_full || has_watch index cell rule

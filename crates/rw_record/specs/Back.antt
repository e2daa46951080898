-- Which cells can be put back.
use Rattle.std.specs.Prelude.{◌≡◌, Bool, IsFalse, IsTrue, None, nat_le, ◌&&◌}
use Rattle.rw_base.specs.declared.number.Cell.{Cell}
use Rattle.rw_model.specs.Draft.{Draft}
use Rattle.rw_model.specs.Links.{is_slot}
use Rattle.rw_series.specs.Series.{IsCell, is_shared}
use Rattle.rw_run.specs.Log.{Cells}

-- a slot of the basin at a timestep of its run
abbrev pub is_cell : Draft → Cell → Bool
is_cell basin cell = is_slot basin.objects cell.slot.0 && (nat_le 1 cell.step.0 && nat_le cell.step.0 basin.control.stamps.count)

-- what a series made for the basin can hold: cells that share their value hold the same, and what is no cell holds nothing
pub record AreCellsOf (basin : Draft) (cells : Cells) : Type 0 where
  pub shared : (cell other : Cell) → IsCell basin cell → IsTrue (is_shared basin cell other) → cells cell ≡ cells other
  pub none : (cell : Cell) → IsFalse (is_cell basin cell) → cells cell ≡ None

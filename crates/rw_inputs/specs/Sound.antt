-- Within the crate: what holds of rows with which nothing is wrong.
use Rattle.std.specs.Prelude.{◌≤◌}
use Rattle.rw_model.specs.Draft.{Draft, IsSlot}
use Rattle.rw_model.specs.Links.{IsBetween, bounds_in}
use Rattle.rw_inputs.specs.declared.row_value.RowValue.{RowValue}

-- a slot of the basin, timesteps of its run, and a value that the slot can have
pub record IsRowValue (basin : Draft) (row_value : RowValue) : Type 0 where
  pub slot : IsSlot basin.objects row_value.slot
  pub first : 1 ≤ row_value.first
  pub order : row_value.first ≤ row_value.last
  pub last : row_value.last ≤ basin.control.stamps.count
  pub within : IsBetween (bounds_in basin.objects basin.links basin.bounds row_value.slot) row_value.value

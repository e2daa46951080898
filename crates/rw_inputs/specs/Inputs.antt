-- Inputs: a value for each of some cells. Slots that carry one value have one cell at a timestep, that of the least of them.
use Rattle.std.specs.Prelude.{◌≡◌, ℕ, ◌+◌, ◌==◌, nat_le, ℤ, Bool, ◌&&◌, if◌then◌else◌, List, [], ◌∷◌, length, Option, Some, None, slice_index_or}
use Rattle.rw_model.specs.Objects.{all_slots}
use Rattle.rw_model.specs.Draft.{Draft}
use Rattle.rw_model.specs.Links.{IsBetween, group_of, bounds_in}
use Rattle.rw_inputs.specs.declared.row_value.RowValue.{RowValue}
use Rattle.rw_inputs.specs.Column.{Column, IsColumn, value_in_column}

-- a column for each slot. These count from 1, so an empty one stands in the first place
pub record Inputs : Type 0 where
  pub columns : List Column

-- the column of a slot
abbrev pub slot_column : List Column → ℕ → Column
slot_column columns slot = slice_index_or columns slot []

-- what is kept of a slot at a timestep
abbrev pub value_at : Inputs → ℕ → ℕ → Option ℤ
value_at inputs slot step = value_in_column (slot_column inputs.columns slot) step

-- the slot at which a slot's values are kept: the least of those that carry one value with it
abbrev pub kept_slot : Draft → ℕ → ℕ
kept_slot basin slot = slice_index_or (group_of basin.objects basin.links slot) 0 slot

-- the row gives a value to a slot at a timestep, as it is kept
abbrev pub row_gives : Draft → RowValue → ℕ → ℕ → Bool
row_gives basin row_value slot step = slot == kept_slot basin row_value.slot && (nat_le row_value.first step && nat_le step row_value.last)

-- the value that one of the rows gives to a slot at a timestep
abbrev pub row_value_at : Draft → List RowValue → ℕ → ℕ → Option ℤ
row_value_at basin [] slot step = None
row_value_at basin (row_value ∷ rows) slot step = if row_gives basin row_value slot step then Some row_value.value else row_value_at basin rows slot step

-- a value that is kept of a slot: the slot is the least of those that carry one value with it, and can have the value
pub record IsKeptValue (basin : Draft) (slot : ℕ) (value : ℤ) : Type 0 where
  pub least : kept_slot basin slot ≡ slot
  pub within : IsBetween (bounds_in basin.objects basin.links basin.bounds slot) value

-- inputs made for the basin: they have its slots and timesteps, and keep values where and as the basin can have them
pub record IsInputsOf (basin : Draft) (inputs : Inputs) : Type 0 where
  pub slots : length inputs.columns ≡ length (all_slots basin.objects) + 1
  pub steps : (slot : ℕ) → IsColumn basin.control.stamps.count (slot_column inputs.columns slot)
  pub sound : (slot step : ℕ) (value : ℤ) → value_at inputs slot step ≡ Some value → IsKeptValue basin slot value

-- inputs made for the basin, which keep what the rows give, and nothing else
pub record Keeps (basin : Draft) (rows : List RowValue) (inputs : Inputs) : Type 0 where
  pub made : IsInputsOf basin inputs
  pub values : (slot step : ℕ) → value_at inputs slot step ≡ row_value_at basin rows slot step

-- Within the crate: what is placed timestep by timestep, and for each of them slot by slot.
use Rattle.std.specs.Prelude.{◌≡◌, ℕ, zero, suc, nat_le, nat_lt, ℤ, Bool, ◌&&◌, if◌then◌else◌, List, [], ◌++◌}
use Rattle.rw_base.specs.declared.number.Cell.{Cell}
use Rattle.rw_model.specs.Draft.{Draft}
use Rattle.rw_inputs.specs.Inputs.{Inputs, value_at}
use Rattle.rw_inputs.specs.Placings.{if_placed}
use Rattle.rw_run.specs.Log.{Cells, Log, cells_of}
use Rattle.rw_run.specs.Runs.{with_inputs}

-- what is placed in a slot at a timestep
abbrev pub placing_at : Inputs → ℕ → ℕ → List (Cell × ℤ)
placing_at inputs slot step = if_placed slot step (value_at inputs slot step)

-- what is placed in the first slots at a timestep
abbrev pub row_placings : Inputs → ℕ → ℕ → List (Cell × ℤ)
row_placings inputs zero step = []
row_placings inputs (suc slot) step = row_placings inputs slot step ++ placing_at inputs (suc slot) step

-- a timestep of those behind the first ones, up to the last of a block
abbrev pub is_in_block : ℕ → ℕ → ℕ → Bool
is_in_block first last step = nat_lt first step && nat_le step last

-- this, at a timestep of the block
abbrev pub if_in_block : ℕ → ℕ → ℕ → List (Cell × ℤ) → List (Cell × ℤ)
if_in_block first last step placings = if is_in_block first last step then placings else []

-- each cell holds what is placed at its timestep, over what it held
abbrev pub PlacesAtSteps : Draft → (ℕ → List (Cell × ℤ)) → Cells → Cells → Type 0
PlacesAtSteps basin placings old new = (log : Log) (cell : Cell) → old cell ≡ cells_of basin log cell
    → new cell ≡ cells_of basin (with_inputs log (placings cell.step.0)) cell

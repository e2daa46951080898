-- The cell that the words of a command ask for.
use Rattle.std.specs.Prelude.{◌≡◌, ℕ, nat_le, List, Option, Some, None, option_and_then, IsSome, IsTrue, ◌&&◌, if◌then◌else◌}
use Rattle.rw_base.specs.declared.number.Cell.{Cell}
use Rattle.rw_model.specs.Draft.{Draft}
use Rattle.rw_inputs.specs.Number.{read_number}
use Rattle.rw_inputs.specs.Row.{slot_of_text}
use Rattle.rw_run.specs.Dispatch.{cell_at}
use Rattle.rw_words.specs.Command.{CellWords, Command}
use Rattle.rw_commands.specs.Command.{seeks_cell}

-- ---- a slot and a timestep

-- a timestep of the run
abbrev pub step_in : Draft → Option ℕ → Option ℕ
step_in basin None = None
step_in basin (Some step) = if nat_le 1 step && nat_le step basin.control.stamps.count then Some step else None

-- the timestep of the run that a text of 1 to 18 digits names
abbrev pub step_of_text : Draft → List ℕ → Option ℕ
step_of_text basin text = step_in basin (read_number text)

-- the cell of both
abbrev pub cell_of_both : Option ℕ → Option ℕ → Option Cell
cell_of_both None step = None
cell_of_both (Some slot) None = None
cell_of_both (Some slot) (Some step) = Some (cell_at slot step)

-- the cell that the text of a slot and that of a timestep name
abbrev pub cell_named : Draft → (slot step : List ℕ) → Option Cell
cell_named basin slot step = cell_of_both (slot_of_text basin slot) (step_of_text basin step)

-- ---- of a command

-- the cell of its words
abbrev pub cell_by : Draft → CellWords → Option Cell
cell_by basin words = cell_named basin words.slot words.step

-- the cell that it asks for, where it asks for one that is there
abbrev pub cell_asked : Command → Draft → Option Cell
cell_asked command basin = if seeks_cell command.job then option_and_then (cell_by basin) command.cell else None

-- the cell was found, where one is sought
pub record FindsCell (command : Command) (basin : Draft) (found : Option Cell) : Type 0 where
  pub is : found ≡ cell_asked command basin
  pub some : IsTrue (seeks_cell command.job) → IsSome found

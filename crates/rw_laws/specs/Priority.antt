-- The law of priority: no put that is written lowers the priority of what its cell holds, and no input changes.
use Rattle.std.specs.Prelude.{◌≡◌, ◌≤◌, [], ◌∷◌, All, Some}
use Rattle.std.specs.Option.{ForSome}
use Rattle.rw_base.specs.declared.number.Cell.{Cell}
use Rattle.rw_model.specs.Draft.{Draft}
use Rattle.rw_model.specs.declared.content.Content.{Content}
use Rattle.rw_model.specs.declared.writer.Writer.TheVariants.{Input}
use Rattle.rw_run.specs.Log.{Asked, Cells, Event, placed, Log, cells_of, held_after, written_by}

-- a put to a cell that is known has no lower priority than what the cell holds
abbrev pub IsNoLowerPut : Cells → Asked → Type 0
IsNoLowerPut cells put = ForSome (cells put.cell) (λ held. put.content.number ≤ held.number)

-- an event that finds this in the cells
pub record KeepsPriority (basin : Draft) (cells : Cells) (event : Event) : Type 0 where
  -- each put that it writes has no lower priority than what it replaces
  pub puts : All (IsNoLowerPut cells) (written_by event)
  -- what an input gave stays
  pub inputs : (cell : Cell) (content : Content) → cells cell ≡ Some content → content.writer ≡ Input → held_after basin event cells cell ≡ Some content

-- each event of a log does, but for the inputs themselves, which are placed before the first timestep
abbrev pub KeepPriority : Draft → Log → Type 0
KeepPriority basin [] = Unit {0}
KeepPriority basin (placed cell value ∷ log) = KeepPriority basin log
KeepPriority basin (event ∷ log) = KeepsPriority basin (cells_of basin log) event × KeepPriority basin log

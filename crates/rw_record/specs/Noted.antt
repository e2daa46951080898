-- Cells, each of them once, with what they held when they were noted.
use Rattle.std.specs.Prelude.{◌≡◌, ℕ, Bool, List, [], ◌∷◌, ◌++◌, map, Contains, Option, Some, None, IsSome, option_map, Result, Ok, Err, if◌then◌else◌}
use Rattle.std.specs.List.{IsDistinct, filter_map, list_any}
use Rattle.rw_base.specs.declared.number.Cell.{Cell}
use Rattle.rw_base.specs.declared.memory.NoMemory.{NoMemory}
use Rattle.rw_run.specs.Dispatch.{cell_at}
use Rattle.rw_run.specs.Log.{Cells}
use Rattle.rw_run.specs.Step.{is_same_cell}
use Rattle.rw_run.specs.declared.held.Held.{Held}

abbrev pub cells_noted : List Held → List Cell
cells_noted noted = map (λ (one : Held). one.cell) noted

-- the cell is one of these
abbrev pub is_noted : List Held → Cell → Bool
is_noted noted cell = list_any (is_same_cell cell) (cells_noted noted)

-- no cell stands there twice
abbrev pub AreOnce : List Held → Type 0
AreOnce noted = IsDistinct is_same_cell (cells_noted noted)

-- each of them holds what it held when it was noted
abbrev pub AreHeld : Cells → List Held → Type 0
AreHeld cells noted = (one : Held) → Contains noted one → cells one.cell ≡ one.content

-- the cells noted so far, and with them each of these that isn't noted yet, with what it holds
abbrev pub noted_after : Cells → List Held → List Cell → List Held
noted_after cells noted [] = noted
noted_after cells noted (cell ∷ more) =
    noted_after cells (if is_noted noted cell then noted else noted ++ record { cell = cell; content = cells cell } ∷ []) more

-- the cells that slots have at a timestep, by their numbers
abbrev pub row_cells : ℕ → List (Option ℕ) → List Cell
row_cells step numbers = filter_map (option_map (λ slot. cell_at slot step)) numbers

-- ---- a list that may not be kept at all

-- what is noted, which is nothing where nothing is kept
abbrev pub noted_in : Option (List Held) → List Held
noted_in None = []
noted_in (Some noted) = noted

-- these cells are noted too, where something is kept
abbrev pub with_noted : Cells → List Cell → Option (List Held) → Option (List Held)
with_noted cells more kept = option_map (λ noted. noted_after cells noted more) kept

-- the first of these cells are noted too
pub record NotesFirst (cells : Cells) (all : List Cell) (old new : Option (List Held)) : Type 0 where
  pub first : List Cell
  pub rest : List Cell
  pub whole : all ≡ first ++ rest
  pub noted : new ≡ with_noted cells first old

-- all of these cells are noted too, or memory wants for it: something is kept, and some first ones of them are noted
abbrev pub AddsNotes : Cells → List Cell → Option (List Held) → Option (List Held) → Result (Unit {0}) NoMemory → Type 0
AddsNotes cells all old new (Ok done) = new ≡ with_noted cells all old
AddsNotes cells all old new (Err fault) = IsSome old × NotesFirst cells all old new

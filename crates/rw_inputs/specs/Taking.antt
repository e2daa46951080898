-- Within the crate: what is done with a row: inputs keep what it gives, or it is refused.
use Rattle.std.specs.Prelude.{◌≡◌, ℕ, true, false, List, [], ◌∷◌, ◌++◌, Option, None}
use Rattle.std.specs.List.{list_any}
use Rattle.rw_model.specs.Draft.{Draft}
use Rattle.rw_inputs.specs.declared.fault.InputFault.{InputFault}
use Rattle.rw_inputs.specs.Refusal.{InputRefusal, TellsInput}
use Rattle.rw_inputs.specs.declared.row_value.RowValue.{RowValue}
use Rattle.rw_inputs.specs.Records.{Fields}
use Rattle.rw_inputs.specs.Row.{read_row}
use Rattle.rw_inputs.specs.Inputs.{Inputs, Keeps}
use Rattle.rw_inputs.specs.Reading.{row_values, refused_or, shares_cell, wrong_behind}

-- whatever rows the inputs keep, what is given shares no cell with them, and is kept with them from now on
abbrev pub TakesRowValue : Draft → RowValue → Inputs → Inputs → Type 0
TakesRowValue basin row_value old new = (rows : List RowValue) → Keeps basin rows old
    → (list_any (shares_cell basin row_value) rows ≡ false) × Keeps basin (rows ++ row_value ∷ []) new

-- whatever rows the inputs keep, what is given shares a cell with one of them
abbrev pub IsTwice : Draft → RowValue → Inputs → Type 0
IsTwice basin row_value inputs = (rows : List RowValue) → Keeps basin rows inputs → list_any (shares_cell basin row_value) rows ≡ true

-- the same of a row: nothing is wrong with it behind those of which the inputs keep what they give
abbrev pub TakesRow : Draft → Fields → Inputs → Inputs → Type 0
TakesRow basin row old new = (before : List Fields) → Keeps basin (row_values basin before) old
    → (wrong_behind basin before (read_row basin row) ≡ None) × Keeps basin (row_values basin (before ++ row ∷ [])) new

-- the fault tells why the row of this number is refused behind them, whatever comes later
abbrev pub RefusesRow : Draft → ℕ → Fields → Inputs → InputFault → Type 0
RefusesRow basin number row inputs fault = (before : List Fields) → Keeps basin (row_values basin before) inputs
    → (later : Option InputRefusal) → TellsInput fault (refused_or number (wrong_behind basin before (read_row basin row)) later)

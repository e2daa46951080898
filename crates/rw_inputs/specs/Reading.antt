-- What a text of inputs is read as: what its rows give, or the first refusal.
use Rattle.std.specs.Prelude.{◌≡◌, ℕ, ◌+◌, ◌==◌, nat_le, max, min, ℤ, Bool, false, ◌&&◌, if◌then◌else◌, List, [], ◌∷◌, ◌++◌, Option, Some, None, Result, Ok, Err, bytes_eq, codes}
use Rattle.std.specs.List.{list_any}
use Rattle.rw_model.specs.Draft.{Draft}
use Rattle.rw_inputs.specs.declared.fault.InputKind.TheVariants.{Header, Twice}
use Rattle.rw_inputs.specs.declared.wrong.Part.{Part}
use Rattle.rw_inputs.specs.declared.wrong.Part.TheVariants.{Row, Batch, Slot, Step, Value}
use Rattle.rw_inputs.specs.declared.wrong.Wrong.{Wrong}
use Rattle.rw_inputs.specs.declared.row_value.RowValue.{RowValue}
use Rattle.rw_base.specs.Answers.{unless_refused}
use Rattle.rw_inputs.specs.Refusal.{InputRefusal, refused_at}
use Rattle.rw_inputs.specs.Records.{Fields, records_of}
use Rattle.rw_inputs.specs.Row.{three_fields, read_row}
use Rattle.rw_inputs.specs.Inputs.{Inputs, IsInputsOf, row_value_at, kept_slot, value_at}

-- what is in a row, if nothing is wrong with it by itself
abbrev pub good : Result RowValue Wrong → List RowValue
good (Ok row_value) = row_value ∷ []
good (Err wrong) = []

-- what rows give, those left out with which something is wrong
abbrev pub row_values : Draft → List Fields → List RowValue
row_values basin [] = []
row_values basin (row ∷ rows) = good (read_row basin row) ++ row_values basin rows

-- both give a value to one cell: the later of their first timesteps isn't behind the earlier of their last ones
abbrev pub shares_cell : Draft → RowValue → RowValue → Bool
shares_cell basin row_value other =
    kept_slot basin row_value.slot == kept_slot basin other.slot && nat_le (max row_value.first other.first) (min row_value.last other.last)

-- what is wrong with a row that stands behind others: with the row itself, or that one of them gives a value to one of its cells
abbrev pub wrong_behind : Draft → List Fields → Result RowValue Wrong → Option Wrong
wrong_behind basin before (Err wrong) = Some wrong
wrong_behind basin before (Ok row_value) =
    if list_any (shares_cell basin row_value) (row_values basin before) then Some (record { kind = Twice; part = Row }) else None

-- in which column a part of a row stands. Column 0 is the whole row; a row of inputs has no batch
abbrev pub column : Part → ℕ
column Row = 0
column Batch = 0
column Slot = 1
column Step = 2
column Value = 3

-- the refusal of a row of this number, if it is refused, or else the one that stands behind it
abbrev pub refused_or : ℕ → Option Wrong → Option InputRefusal → Option InputRefusal
refused_or number None later = later
refused_or number (Some wrong) later = Some (refused_at wrong.kind number (column wrong.part))

-- the first refusal of rows that stand behind others, where their numbers count from the one that is given
abbrev pub first_refusal : Draft → ℕ → List Fields → List Fields → Option InputRefusal
first_refusal basin number before [] = None
first_refusal basin number before (row ∷ rows) =
    refused_or number (wrong_behind basin before (read_row basin row)) (first_refusal basin (number + 1) (before ++ row ∷ []) rows)

abbrev pub names_columns : Option (List ℕ × List ℕ × List ℕ) → Bool
names_columns None = false
names_columns (Some fields) =
    bytes_eq fields.0 (codes "slot") && (bytes_eq fields.1 (codes "step") && bytes_eq fields.2 (codes "value"))

-- the fields `slot`, `step` and `value`
abbrev pub is_header : Fields → Bool
is_header fields = names_columns (three_fields fields)

-- what the rows behind the header give, or the first refusal
abbrev pub read_rows : Draft → List Fields → Result (List RowValue) InputRefusal
read_rows basin rows = unless_refused (first_refusal basin 2 [] rows) (row_values basin rows)

-- what the records give, or the first refusal. The header is row 1
abbrev pub read_records : Draft → List Fields → Result (List RowValue) InputRefusal
read_records basin [] = Err (refused_at Header 1 0)
read_records basin (header ∷ rows) = if is_header header then read_rows basin rows else Err (refused_at Header 1 0)

-- a value or none for each slot at each timestep, by what rows give
abbrev pub values_read : Draft → Result (List RowValue) InputRefusal → Result (ℕ → ℕ → Option ℤ) InputRefusal
values_read basin (Ok rows) = Ok (row_value_at basin rows)
values_read basin (Err refusal) = Err refusal

-- the values that a text gives, or why it is refused
abbrev pub inputs_of : Draft → List ℕ → Result (ℕ → ℕ → Option ℤ) InputRefusal
inputs_of basin text = values_read basin (read_records basin (records_of text))

-- the text reads as inputs, which are made for the basin
pub record Reads (basin : Draft) (text : List ℕ) (inputs : Inputs) : Type 0 where
  pub made : IsInputsOf basin inputs
  pub values : inputs_of basin text ≡ Ok (value_at inputs)

-- the text is refused for its first fault
abbrev pub Refuses : Draft → List ℕ → InputRefusal → Type 0
Refuses basin text refusal = inputs_of basin text ≡ Err refusal

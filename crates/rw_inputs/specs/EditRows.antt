-- What a text of edits or of traces is read as: its batches, or the first refusal.
use Rattle.std.specs.Prelude.{ℕ, ◌+◌, ◌-◌, ◌==◌, nat_le, ℤ, Bool, false, ◌&&◌, ◌||◌, if◌then◌else◌, List, [], ◌∷◌, ◌++◌, length, slice_index_or, slice_set, Option, Some, None, Result, Ok, Err, bytes_eq, codes}
use Rattle.std.specs.List.{list_any}
use Rattle.rw_base.specs.Answers.{unless_refused}
use Rattle.rw_model.specs.Draft.{Draft}
use Rattle.rw_inputs.specs.declared.limits.TheConstants.{BATCHES_MAX, EDITS_MAX}
use Rattle.rw_inputs.specs.declared.fault.InputKind.TheVariants.{Header, NotANumber, Twice, Ragged, BatchOrder, TooMany}
use Rattle.rw_inputs.specs.declared.wrong.Part.{Part}
use Rattle.rw_inputs.specs.declared.wrong.Part.TheVariants.{Row, Batch as BatchPart, Slot, Step, Value}
use Rattle.rw_inputs.specs.declared.wrong.Wrong.{Wrong}
use Rattle.rw_inputs.specs.declared.edit.Edit.{Edit}
use Rattle.rw_inputs.specs.Refusal.{InputRefusal, refused_at}
use Rattle.rw_inputs.specs.Records.{Fields, records_of}
use Rattle.rw_inputs.specs.Number.{read_number}
use Rattle.rw_inputs.specs.Row.{wrong, ◌>>=◌, read_slot, read_span, read_value}
use Rattle.rw_inputs.specs.Inputs.{kept_slot}
use Rattle.rw_inputs.specs.Edits.{Batch}

-- ---- the batch, in column 1

-- the number can stand behind a row of the last batch, whose number is 0 where there is none
abbrev pub batch_follows : ℕ → ℕ → Bool
batch_follows last batch = if last == 0 then batch == 1 else (batch == last || batch == last + 1)

abbrev pub batch_behind : ℕ → Option ℕ → Result ℕ Wrong
batch_behind last None = wrong NotANumber BatchPart
batch_behind last (Some batch) =
    if batch_follows last batch
    then (if nat_le batch BATCHES_MAX then Ok batch else wrong TooMany BatchPart)
    else wrong BatchOrder BatchPart

-- the number of the last batch, or of the one behind it
abbrev pub read_batch : ℕ → List ℕ → Result ℕ Wrong
read_batch last text = batch_behind last (read_number text)

-- ---- what it sets, in columns 2 to 4

abbrev pub value_or_none : Result ℤ Wrong → Result (Option ℤ) Wrong
value_or_none (Ok value) = Ok (Some value)
value_or_none (Err wrong) = Err wrong

-- nothing, or a value that the slot can have
abbrev pub read_change : Draft → ℕ → List ℕ → Result (Option ℤ) Wrong
read_change basin slot text =
    if length text == 0 then Ok None else value_or_none (read_value basin slot text)

-- a slot, timesteps, and a value or nothing. What is wrong with an earlier one comes first
abbrev pub read_edit : Draft → List ℕ → List ℕ → List ℕ → Result Edit Wrong
read_edit basin slot span value = do
  slot ← read_slot basin slot
  span ← read_span basin span
  value ← read_change basin slot value
  Ok (record { slot = kept_slot basin slot; first = span.first; last = span.last; value = value })

-- the fields of a record of four
abbrev pub four_fields : Fields → Option (List ℕ × List ℕ × List ℕ × List ℕ)
four_fields (a ∷ b ∷ c ∷ d ∷ []) = Some (a, b, c, d)
four_fields fields = None

-- the edit, if nothing is wrong with it by itself
abbrev pub said : Result Edit Wrong → List Edit
said (Ok edit) = edit ∷ []
said (Err wrong) = []

-- the edit that a row of four fields says
abbrev pub edit_said_by : Draft → Option (List ℕ × List ℕ × List ℕ × List ℕ) → List Edit
edit_said_by basin None = []
edit_said_by basin (Some fields) = said (read_edit basin fields.1 fields.2 fields.3)

-- what rows say, whatever their batches, those left out with which something is wrong by themselves
abbrev pub edits_said : Draft → List Fields → List Edit
edits_said basin [] = []
edits_said basin (fields ∷ rows) = edit_said_by basin (four_fields fields) ++ edits_said basin rows

-- ---- behind the rows before it

-- both name one cell: each begins no later than the other ends
abbrev pub meets : Edit → Edit → Bool
meets edit other = edit.slot == other.slot && (nat_le edit.first other.last && nat_le other.first edit.last)

-- the batch of this number, which has no edits if it isn't there. Batches count from 1
abbrev pub batch_at : List Batch → ℕ → Batch
batch_at batches number = slice_index_or batches (number - 1) []

-- the batches up to the one of this number, which is the last one or the one behind it
abbrev pub batches_opened : List Batch → ℕ → List Batch
batches_opened batches number = if nat_le number (length batches) then batches else batches ++ [] ∷ []

-- the batches, with the edit at the end of the one of this number
abbrev pub with_edit : List Batch → ℕ → Edit → List Batch
with_edit batches number edit =
    slice_set (batches_opened batches number) (number - 1) (batch_at (batches_opened batches number) number ++ edit ∷ [])

-- what is wrong with an edit behind others: an earlier one of its batch names one of its cells, or too many rows stand before
-- it. The header is row 1
abbrev pub wrong_among : ℕ → List Batch → ℕ → Edit → Option Wrong
wrong_among row batches number edit =
    if list_any (meets edit) (batch_at batches number)
    then Some (record { kind = Twice; part = Row })
    else (if nat_le row (EDITS_MAX + 1) then None else Some (record { kind = TooMany; part = Row }))

-- the batches with the edit, if nothing is wrong with it behind others
abbrev pub admit : ℕ → List Batch → ℕ → Edit → Result (List Batch) Wrong
admit row batches number edit = unless_refused (wrong_among row batches number edit) (with_edit batches number edit)

-- the batches with one row more
abbrev pub batches_with : Draft → ℕ → List Batch → Option (List ℕ × List ℕ × List ℕ × List ℕ) → Result (List Batch) Wrong
batches_with basin row batches None = wrong Ragged Row
batches_with basin row batches (Some fields) = do
  number ← read_batch (length batches) fields.0
  edit ← read_edit basin fields.1 fields.2 fields.3
  admit row batches number edit

-- ---- the text

-- in which column a part of a row stands. Column 0 is the whole row
abbrev pub edit_column : Part → ℕ
edit_column Row = 0
edit_column BatchPart = 1
edit_column Slot = 2
edit_column Step = 3
edit_column Value = 4

-- what is read next, unless the row of this number is refused
abbrev pub at_row : {A B : Type 0} → ℕ → Result A Wrong → (A → Result B InputRefusal) → Result B InputRefusal
at_row row (Ok x) next = next x
at_row row (Err wrong) next = Err (refused_at wrong.kind row (edit_column wrong.part))

-- the batches with more rows, whose numbers count from the one that is given
abbrev pub more_batches : Draft → ℕ → List Batch → List Fields → Result (List Batch) InputRefusal
more_batches basin row batches [] = Ok batches
more_batches basin row batches (fields ∷ rows) =
    at_row row (batches_with basin row batches (four_fields fields)) (λ more. more_batches basin (row + 1) more rows)

-- the fields of the first record, which name the columns, the first of them by this word
abbrev pub header_of : List ℕ → Fields
header_of word = word ∷ codes "slot" ∷ codes "step" ∷ codes "value" ∷ []

abbrev pub names_columns : List ℕ → Option (List ℕ × List ℕ × List ℕ × List ℕ) → Bool
names_columns word None = false
names_columns word (Some fields) =
    bytes_eq fields.0 word
    && (bytes_eq fields.1 (codes "slot") && (bytes_eq fields.2 (codes "step") && bytes_eq fields.3 (codes "value")))

abbrev pub is_header_of : List ℕ → Fields → Bool
is_header_of word fields = names_columns word (four_fields fields)

-- the batches that records under the header of this word give, or the first refusal
abbrev pub read_under : List ℕ → Draft → List Fields → Result (List Batch) InputRefusal
read_under word basin [] = Err (refused_at Header 1 0)
read_under word basin (header ∷ rows) =
    if is_header_of word header then more_batches basin 2 [] rows else Err (refused_at Header 1 0)

-- ---- edits, whose batches count one over another

abbrev pub edit_header : Fields
edit_header = header_of (codes "batch")

abbrev pub read_batches : Draft → List Fields → Result (List Batch) InputRefusal
read_batches basin records = read_under (codes "batch") basin records

-- the batches that a text gives, or why it is refused
abbrev pub edits_of : Draft → List ℕ → Result (List Batch) InputRefusal
edits_of basin text = read_batches basin (records_of text)

-- ---- scenarios, the batches of a text of traces, each of which counts over the inputs alone

abbrev pub scenario_header : Fields
scenario_header = header_of (codes "trace")

abbrev pub read_scenarios : Draft → List Fields → Result (List Batch) InputRefusal
read_scenarios basin records = read_under (codes "trace") basin records

-- the scenarios that a text gives, or why it is refused
abbrev pub scenarios_of : Draft → List ℕ → Result (List Batch) InputRefusal
scenarios_of basin text = read_scenarios basin (records_of text)

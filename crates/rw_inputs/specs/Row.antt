-- What a row of inputs says by itself: a slot, timesteps and a value.
use Rattle.std.specs.Prelude.{ℕ, ◌+◌, nat_le, ℤ, int_le, Bool, false, ◌&&◌, if◌then◌else◌, List, [], ◌∷◌, take, drop, Option, Some, None, option_map, option_and_then, unwrap_or, Result, Ok, Err}
use Rattle.std.specs.Str.{is_utf8}
use Rattle.rw_model.specs.Slot.{Bounds}
use Rattle.rw_model.specs.Objects.{slot_at, slot_named}
use Rattle.rw_model.specs.Basin.{is_settable}
use Rattle.rw_model.specs.Links.{bounds_in}
use Rattle.rw_model.specs.Draft.{Draft}
use Rattle.rw_inputs.specs.declared.fault.InputKind.{InputKind}
use Rattle.rw_inputs.specs.declared.fault.InputKind.TheVariants.{UnknownSlot, NotSettable, NotANumber, OutOfBounds, StepOutside, Ragged}
use Rattle.rw_inputs.specs.declared.wrong.Part.{Part}
use Rattle.rw_inputs.specs.declared.wrong.Part.TheVariants.{Row, Slot, Step, Value}
use Rattle.rw_inputs.specs.declared.wrong.Wrong.{Wrong}
use Rattle.rw_inputs.specs.declared.row_value.RowValue.{RowValue}
use Rattle.rw_inputs.specs.declared.span.Span.{Span}
use Rattle.rw_inputs.specs.Number.{read_number, read_signed, byte_position}

-- what is wrong, with a part of a row
abbrev pub wrong : {A : Type 0} → InputKind → Part → Result A Wrong
wrong kind part = Err (record { kind = kind; part = part })

infixl 10 ◌>>=◌
abbrev pub ◌>>=◌ : {A B : Type 0} → Result A Wrong → (A → Result B Wrong) → Result B Wrong
(Ok x) >>= f = f x
(Err e) >>= f = Err e

-- ---- the slot

-- the slot of these names, which are UTF-8
abbrev pub slot_of_names : Draft → List ℕ → List ℕ → Option ℕ
slot_of_names basin object slot = if is_utf8 object && is_utf8 slot then slot_named basin.objects object slot else None

-- the slot that a text names: its object and its own name stand before and behind the first `.`
abbrev pub slot_of_text : Draft → List ℕ → Option ℕ
slot_of_text basin text = option_and_then (λ dot. slot_of_names basin (take dot text) (drop (dot + 1) text)) (byte_position 46 text)

-- inputs can set the slot
abbrev pub can_be_set : Draft → ℕ → Bool
can_be_set basin slot = unwrap_or (option_map (λ placed. is_settable placed.slot.role) (slot_at basin.objects slot)) false

abbrev pub set_slot : Draft → Option ℕ → Result ℕ Wrong
set_slot basin None = wrong UnknownSlot Slot
set_slot basin (Some slot) = if can_be_set basin slot then Ok slot else wrong NotSettable Slot

-- a slot of the model that inputs can set
abbrev pub read_slot : Draft → List ℕ → Result ℕ Wrong
read_slot basin text = set_slot basin (slot_of_text basin text)

-- ---- the timesteps

abbrev pub span_of : Option ℕ → Option ℕ → Option (ℕ × ℕ)
span_of None last = None
span_of (Some first) None = None
span_of (Some first) (Some last) = Some (first, last)

-- one number, or two numbers round the first `-`
abbrev pub span_in : List ℕ → Option ℕ → Option (ℕ × ℕ)
span_in text None = span_of (read_number text) (read_number text)
span_in text (Some dash) = span_of (read_number (take dash text)) (read_number (drop (dash + 1) text))

abbrev pub within_run : Draft → Option (ℕ × ℕ) → Result Span Wrong
within_run basin None = wrong NotANumber Step
within_run basin (Some span) =
    if nat_le 1 span.0 && (nat_le span.0 span.1 && nat_le span.1 basin.control.stamps.count)
    then Ok (record { first = span.0; last = span.1 })
    else wrong StepOutside Step

-- a timestep of the run, or a range of timesteps of the run
abbrev pub read_span : Draft → List ℕ → Result Span Wrong
read_span basin text = within_run basin (span_in text (byte_position 45 text))

-- ---- the value

abbrev pub within_bounds : Bounds → Option ℤ → Result ℤ Wrong
within_bounds bounds None = wrong NotANumber Value
within_bounds bounds (Some value) =
    if int_le bounds.0 value && int_le value bounds.1 then Ok value else wrong OutOfBounds Value

-- a value that the slot can have
abbrev pub read_value : Draft → ℕ → List ℕ → Result ℤ Wrong
read_value basin slot text = within_bounds (bounds_in basin.objects basin.links basin.bounds slot) (read_signed text)

-- ---- the row

-- the fields of a record of three
abbrev pub three_fields : List (List ℕ) → Option (List ℕ × List ℕ × List ℕ)
three_fields (a ∷ b ∷ c ∷ []) = Some (a, b, c)
three_fields fields = None

-- a slot, timesteps and a value. What is wrong with an earlier one comes first
abbrev pub row_of : Draft → Option (List ℕ × List ℕ × List ℕ) → Result RowValue Wrong
row_of basin None = wrong Ragged Row
row_of basin (Some fields) = do
  slot ← read_slot basin fields.0
  span ← read_span basin fields.1
  value ← read_value basin slot fields.2
  Ok (record { slot = slot; first = span.first; last = span.last; value = value })

-- what a row of three fields says
abbrev pub read_row : Draft → List (List ℕ) → Result RowValue Wrong
read_row basin fields = row_of basin (three_fields fields)

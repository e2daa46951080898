-- Edits: what values inputs give after batches of edits.
use Rattle.std.specs.Prelude.{ℕ, ◌==◌, ◌≤◌, nat_le, ℤ, Bool, ◌&&◌, if◌then◌else◌, List, [], ◌∷◌, ◌++◌, Option, IfSome}
use Rattle.std.specs.List.{All}
use Rattle.rw_model.specs.Draft.{Draft, IsSlot}
use Rattle.rw_inputs.specs.declared.edit.Edit.{Edit}
use Rattle.rw_inputs.specs.Inputs.{IsKeptValue}

-- a value or none for each slot at each timestep
abbrev pub Values : Type 0
Values = ℕ → ℕ → Option ℤ

-- a batch of edits, in the order of its rows
abbrev pub Batch : Type 0
Batch = List Edit

-- an edit in one line
abbrev pub edit_of : ℕ → ℕ → ℕ → Option ℤ → Edit
edit_of slot first last value = record { slot = slot; first = first; last = last; value = value }

-- the edit names a slot at a timestep
abbrev pub names : Edit → ℕ → ℕ → Bool
names edit slot step = slot == edit.slot && (nat_le edit.first step && nat_le step edit.last)

-- the edits of all batches, in the order of their rows
abbrev pub edits_in : List Batch → List Edit
edits_in [] = []
edits_in (batch ∷ batches) = batch ++ edits_in batches

-- values after an edit: what it says where it names a cell, and elsewhere what was there
abbrev pub after_edit : Edit → Values → Values
after_edit edit values slot step = if names edit slot step then edit.value else values slot step

-- values after a batch
abbrev pub after_batch : Batch → Values → Values
after_batch [] values = values
after_batch (edit ∷ edits) values = after_batch edits (after_edit edit values)

-- values after batches, one after another
abbrev pub after_batches : List Batch → Values → Values
after_batches [] values = values
after_batches (batch ∷ batches) values = after_batches batches (after_batch batch values)

-- an edit of the basin: a slot at which values are kept, timesteps of the run, and a value, if any, that the slot can have
pub record IsEdit (basin : Draft) (edit : Edit) : Type 0 where
  pub slot : IsSlot basin.objects edit.slot
  pub first : 1 ≤ edit.first
  pub order : edit.first ≤ edit.last
  pub last : edit.last ≤ basin.control.stamps.count
  pub kept : IfSome edit.value (IsKeptValue basin edit.slot)

-- a batch of the basin
abbrev pub IsBatch : Draft → Batch → Type 0
IsBatch basin batch = All (IsEdit basin) batch

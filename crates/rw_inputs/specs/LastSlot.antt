-- Within the crate: the slot that the last row named.
use Rattle.std.specs.Prelude.{◌≡◌, ◌≢◌, Ok}
use Rattle.rw_model.specs.Draft.{Draft, IsSlot}
use Rattle.rw_inputs.specs.declared.last_slot.LastSlot.{LastSlot}
use Rattle.rw_inputs.specs.Row.{read_slot}

-- where a slot is kept, the text names it
abbrev pub IsLastSlot : Draft → LastSlot → Type 0
IsLastSlot basin last = last.slot ≢ 0 → (read_slot basin last.text.items ≡ Ok last.slot) × IsSlot basin.objects last.slot

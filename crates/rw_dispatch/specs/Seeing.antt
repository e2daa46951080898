-- Within the crate: what is seen of a slot, by its number.
use Rattle.std.specs.Prelude.{ℕ, Bool, true, false, pos, Option, option_map, option_and_then, unwrap_or}
use Rattle.rw_model.specs.declared.content.Content.{Content}
use Rattle.rw_model.specs.declared.kind.Kind.{Kind}
use Rattle.rw_model.specs.declared.kind.Kind.TheVariants.{DataObject, PowerReservoir, Reservoir}
use Rattle.rw_model.specs.Draft.{Draft}
use Rattle.rw_model.specs.Links.{bounds_in}
use Rattle.rw_model.specs.Slot.{Bounds}
use Rattle.rw_run.specs.Dispatch.{cell_at}
use Rattle.rw_run.specs.Log.{Cells}

-- what it holds at a timestep, if there is one
abbrev pub content_at_slot : Cells → ℕ → Option ℕ → Option Content
content_at_slot cells step number = option_and_then cells (option_map (λ slot. cell_at slot step) number)

-- its bounds, 0 and 0 where there is none
abbrev pub bounds_of_slot : Draft → Option ℕ → Bounds
bounds_of_slot basin number = unwrap_or (option_map (bounds_in basin.objects basin.links basin.bounds) number) (pos 0, pos 0)

-- objects of the kind have slots in the places from 5 on
abbrev pub has_late : Kind → Bool
has_late (DataObject slots) = true
has_late (Reservoir initial_storage table local_inflow diversion return_flow evaporation max_release) = true
has_late (PowerReservoir initial_storage table max_release tailwater power) = true
has_late kind = false

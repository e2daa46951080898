-- The inflow that a seed gives to the first reservoir, and the basins that can take it.
use Rattle.std.specs.Prelude.{◌≡◌, ◌≤◌, ℕ, nat_le, ◌==◌, ◌&&◌, if◌then◌else◌, IsTrue, ℤ, pos, Option, Some, None, codes}
use Rattle.rw_model.specs.Draft.{Draft}
use Rattle.rw_model.specs.Links.{IsBetween, bounds_in}
use Rattle.rw_inputs.specs.Row.{can_be_set, slot_of_text}
use Rattle.rw_sample.specs.Texts.{seeded_inflow, seeded_number}

-- a value at each of the first timesteps of one slot, so many of them, and at no other slot and timestep
abbrev pub inflow_at : (kept seed count slot step : ℕ) → Option ℤ
inflow_at kept seed count slot step =
    if slot == kept && (nat_le 1 step && nat_le step count) then Some (pos (seeded_inflow (seeded_number seed step))) else None

-- the slot is the first reservoir's inflow: inputs can set it, in each of 365 timesteps, to each value from 0 to 999
pub record TakesInflows (basin : Draft) (slot : ℕ) : Type 0 where
  pub named : slot_of_text basin (codes "D1.Inflow") ≡ Some slot
  pub settable : IsTrue (can_be_set basin slot)
  pub steps : 365 ≤ basin.control.stamps.count
  pub least : IsBetween (bounds_in basin.objects basin.links basin.bounds slot) (pos 0)
  pub most : IsBetween (bounds_in basin.objects basin.links basin.bounds slot) (pos 999)

-- The earlier value at which an object looks.
use Rattle.std.specs.Prelude.{ℕ, ◌==◌, if◌then◌else◌, Option, None, Some}
use Rattle.rw_model.specs.declared.kind.Kind.{Kind}
use Rattle.rw_model.specs.declared.kind.Kind.TheVariants.{DataObject, Gage, Confluence, Bifurcation, Reach, Reservoir, WaterUser, Canal, PowerReservoir, RoutedReach}
use Rattle.rw_method.specs.declared.places.TheConstants.{INFLOW, STORAGE, CONTENT}

-- the place of the slot whose earlier value a kind looks at, and how many timesteps ago
abbrev pub past_in : Kind → Option (ℕ × ℕ)
past_in (DataObject slots) = None
past_in Gage = None
past_in Confluence = None
past_in Bifurcation = None
past_in (Reach lag history local_inflow diversion return_flow) = if lag == 0 then None else Some (INFLOW, lag)
past_in (Reservoir initial_storage table local_inflow diversion return_flow evaporation max_release) = Some (STORAGE, 1)
past_in (WaterUser depletion supply) = None
past_in (Canal seepage) = None
past_in (PowerReservoir initial_storage table max_release tailwater power) = Some (STORAGE, 1)
past_in (RoutedReach initial_content release) = Some (CONTENT, 1)

-- The parameters that the kinds may have.
use Rattle.std.specs.Prelude.{◌≡◌, ℕ, ◌≤◌, ◌==◌, nat_le, ℤ, pos, ◌-ℤ◌, ◌≤ℤ◌, Bool, true, ◌&&◌, ◌||◌, not, IsTrue, List, length, All, Option, None, Some, is_some, IsSome}
use Rattle.std.specs.List.{list_all}
use Rattle.std.specs.Option.{ForSome}
use Rattle.rw_base.specs.Quantity.{quantity_max, IsQuantity}
use Rattle.rw_base.specs.Range.{is_from_to}
use Rattle.rw_table.specs.declared.fault.TheConstants.{ELEVATION_MAX}
use Rattle.rw_table.specs.Table.{Row}
use Rattle.rw_table.specs.Curve.{first_row, last_row, IsVolumeInside}
use Rattle.rw_model.specs.declared.data_slots.DataSlot.{DataSlot}
use Rattle.rw_model.specs.declared.limits.TheConstants.{DATA_SLOTS_MAX, LAG_MAX, PARTS, POWER_MAX, SEEPAGE_MAX}
use Rattle.rw_model.specs.declared.kind.Kind.{Kind}
use Rattle.rw_model.specs.declared.kind.Kind.TheVariants.{DataObject, Gage, Confluence, Bifurcation, Reach, Reservoir, WaterUser, Canal, PowerReservoir, RoutedReach}
use Rattle.rw_model.specs.Name.{IsName, is_name}

-- a whole number from 0 to Q
pub record IsAmount (z : ℤ) : Type 0 where
  pub low : pos 0 ≤ℤ z
  pub high : z ≤ℤ quantity_max

-- 1 to 8 slots, each with a name
pub record IsDataSlots (slots : List DataSlot) : Type 0 where
  pub some : 1 ≤ length slots
  pub few : length slots ≤ DATA_SLOTS_MAX
  pub named : All (λ (slot : DataSlot). IsName slot.name) slots

-- a lag of 0 to 30 timesteps, and one inflow for each of them
pub record IsLagged (lag : ℕ) (history : List ℤ) : Type 0 where
  pub short : lag ≤ LAG_MAX
  pub whole : length history ≡ lag
  pub quantities : All IsQuantity history

-- an initial storage from 0 to Q m3, which the table has if there is one, evaporation only with a table, and a greatest release from 0 to Q m3/step
pub record IsStored (initial_storage : ℤ) (table : Option (List Row)) (evaporation : Bool) (max_release : Option ℤ) : Type 0 where
  pub amount : IsAmount initial_storage
  pub inside : ForSome table (λ rows. IsVolumeInside rows initial_storage)
  pub evaporates : IsTrue evaporation → IsSome table
  pub releases : ForSome max_release IsAmount

-- a tailwater from 0 to 10,000,000 mm, and 1 to 10,000 kWh for 10^9 m3 that fall by 1 mm
pub record IsPlant (tailwater : ℤ) (power : ℕ) : Type 0 where
  pub low : pos 0 ≤ℤ tailwater
  pub high : tailwater ≤ℤ ELEVATION_MAX
  pub some : 1 ≤ power
  pub most : power ≤ POWER_MAX

-- an initial storage from 0 to Q m3, which the table has, a greatest release from 0 to Q m3/step, and a plant
pub record IsPowered (initial_storage : ℤ) (rows : List Row) (max_release tailwater : ℤ) (power : ℕ) : Type 0 where
  pub amount : IsAmount initial_storage
  pub inside : IsVolumeInside rows initial_storage
  pub release : IsAmount max_release
  pub plant : IsPlant tailwater power

-- an initial content from 0 to Q m3, and 1 to 1000 of a thousand parts that flow out
pub record IsRouted (initial_content : ℤ) (release : ℕ) : Type 0 where
  pub amount : IsAmount initial_content
  pub some : 1 ≤ release
  pub most : release ≤ PARTS

-- a kind whose parameters are in range
abbrev pub IsKind : Kind → Type 0
IsKind (DataObject slots) = IsDataSlots slots
IsKind Gage = Unit {0}
IsKind Confluence = Unit {0}
IsKind Bifurcation = Unit {0}
IsKind (Reach lag history local_inflow diversion return_flow) = IsLagged lag history
IsKind (Reservoir initial_storage table local_inflow diversion return_flow evaporation max_release) =
    IsStored initial_storage table evaporation max_release
IsKind (WaterUser depletion supply) = depletion ≤ PARTS
IsKind (Canal seepage) = seepage ≤ SEEPAGE_MAX
IsKind (PowerReservoir initial_storage table max_release tailwater power) =
    IsPowered initial_storage table max_release tailwater power
IsKind (RoutedReach initial_content release) = IsRouted initial_content release

-- ---- the same, as tests

abbrev pub is_data_slots : List DataSlot → Bool
is_data_slots slots =
    nat_le 1 (length slots) && (nat_le (length slots) DATA_SLOTS_MAX && list_all (λ (slot : DataSlot). is_name slot.name) slots)

abbrev pub is_lagged : ℕ → List ℤ → Bool
is_lagged lag history =
    nat_le lag LAG_MAX && (length history == lag && list_all (is_from_to (pos 0 -ℤ quantity_max) quantity_max) history)

-- the table has the storage, if there is a table
abbrev pub is_inside : Option (List Row) → ℤ → Bool
is_inside None storage = true
is_inside (Some rows) storage = is_from_to (first_row rows).1 (last_row rows).1 storage

abbrev pub is_release : Option ℤ → Bool
is_release None = true
is_release (Some most) = is_from_to (pos 0) quantity_max most

abbrev pub is_stored : ℤ → Option (List Row) → Bool → Option ℤ → Bool
is_stored initial_storage table evaporation max_release =
    is_from_to (pos 0) quantity_max initial_storage && (is_inside table initial_storage
    && ((not evaporation || is_some table) && is_release max_release))

abbrev pub is_plant : ℤ → ℕ → Bool
is_plant tailwater power = is_from_to (pos 0) ELEVATION_MAX tailwater && (nat_le 1 power && nat_le power POWER_MAX)

abbrev pub is_powered : ℤ → List Row → ℤ → ℤ → ℕ → Bool
is_powered initial_storage rows max_release tailwater power =
    is_from_to (pos 0) quantity_max initial_storage && (is_from_to (first_row rows).1 (last_row rows).1 initial_storage
    && (is_from_to (pos 0) quantity_max max_release && is_plant tailwater power))

abbrev pub is_routed : ℤ → ℕ → Bool
is_routed initial_content release =
    is_from_to (pos 0) quantity_max initial_content && (nat_le 1 release && nat_le release PARTS)

abbrev pub is_kind : Kind → Bool
is_kind (DataObject slots) = is_data_slots slots
is_kind Gage = true
is_kind Confluence = true
is_kind Bifurcation = true
is_kind (Reach lag history local_inflow diversion return_flow) = is_lagged lag history
is_kind (Reservoir initial_storage table local_inflow diversion return_flow evaporation max_release) =
    is_stored initial_storage table evaporation max_release
is_kind (WaterUser depletion supply) = nat_le depletion PARTS
is_kind (Canal seepage) = nat_le seepage SEEPAGE_MAX
is_kind (PowerReservoir initial_storage table max_release tailwater power) =
    is_powered initial_storage table max_release tailwater power
is_kind (RoutedReach initial_content release) = is_routed initial_content release

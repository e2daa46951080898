-- What the table of an object says of its kind.
use Rattle.std.specs.Prelude.{ℕ, ◌==◌, ℤ, pos, neg_ℤ, List, [], ◌∷◌, length, false, nat_le, ◌&&◌, if◌then◌else◌, Option, Some, None, option_map, Result, Ok, Err, bytes_eq, codes}
use Rattle.toml.specs.Data.{Data, Items, no_items, item, as_integer, array, Members}
use Rattle.rw_base.specs.Dimension.{Dimension}
use Rattle.rw_base.specs.Quantity.{quantity_max}
use Rattle.rw_base.specs.Unit.{units, unit_in}
use Rattle.rw_table.specs.declared.fault.TheConstants.{ELEVATION_MAX}
use Rattle.rw_table.specs.Table.{Row, table_of}
use Rattle.rw_model.specs.declared.data_slots.DataSlot.{DataSlot}
use Rattle.rw_model.specs.declared.limits.TheConstants.{DATA_SLOTS_MAX, LAG_MAX, PARTS, POWER_MAX, SEEPAGE_MAX}
use Rattle.rw_model.specs.declared.kind.Kind.{Kind}
use Rattle.rw_model.specs.declared.kind.Kind.TheVariants.{DataObject, Gage, Confluence, Bifurcation, Reach, Reservoir, WaterUser, Canal, PowerReservoir, RoutedReach}
use Rattle.rw_model.specs.declared.kind.Supply.{Supply}
use Rattle.rw_model_toml.specs.declared.options.Options.{Options}
use Rattle.rw_model_toml.specs.Refusal.{ModelRefusal, ◌>>=◌, refused_as, wrong_kind, unknown_kind, bad_table, out_of_range}
use Rattle.rw_model_toml.specs.Path.{key_path}
use Rattle.rw_model_toml.specs.Value.{text_of, truth_of, items_of, members_of, number_read, count_read, given_number}
use Rattle.rw_model_toml.specs.Key.{required, optional, known_or, only_listed}
use Rattle.rw_model_toml.specs.ListOf.{list_read}
use Rattle.rw_model_toml.specs.Names.{name_of}
use Rattle.rw_model_toml.specs.Word.{supply_in}

-- the keys of a kind's table: those that every object has, and its own
abbrev pub object_keys : List (List ℕ) → List (List ℕ)
object_keys own = codes "name" ∷ codes "kind" ∷ own

-- a kind that has no keys of its own
abbrev pub bare_of : Kind → List ℕ → Members → Result Kind ModelRefusal
bare_of kind at table = only_listed (object_keys []) at table >>= λ listed. Ok kind

-- ---- data objects

-- what a slot measures
abbrev pub unit_of : List ℕ → Members → Result Dimension ModelRefusal
unit_of at table = required text_of at (codes "unit") table >>= λ word.
    known_or (key_path at (codes "unit")) (option_map (λ unit. unit.0) (unit_in units word))

-- the table of a slot
unfoldable pub data_slot_read : List ℕ → Data → Result DataSlot ModelRefusal
data_slot_read at value = do
  table ← members_of at value
  name ← name_of at table
  dim ← unit_of at table
  listed ← only_listed (codes "name" ∷ codes "unit" ∷ []) at table
  Ok (record { name = name; dim = dim })

-- 1 to 8 of them
abbrev pub few_slots : List ℕ → List DataSlot → Result (List DataSlot) ModelRefusal
few_slots path slots = if nat_le 1 (length slots) && nat_le (length slots) DATA_SLOTS_MAX then Ok slots else Err (out_of_range path)

unfoldable pub data_of : List ℕ → Members → Result Kind ModelRefusal
data_of at table = do
  items ← required items_of at (codes "slots") table
  slots ← list_read data_slot_read (key_path at (codes "slots")) 1 items
  few ← few_slots (key_path at (codes "slots")) slots
  listed ← only_listed (object_keys (codes "slots" ∷ [])) at table
  Ok (DataObject slots)

-- ---- reaches and reservoirs

-- the slots that a reach or a reservoir may have besides
abbrev pub options_of : List ℕ → Members → Result Options ModelRefusal
options_of at table = do
  local_inflow ← optional false truth_of at (codes "local_inflow") table
  diversion ← optional false truth_of at (codes "diversion") table
  return_flow ← optional false truth_of at (codes "return_flow") table
  Ok (record { local_inflow = local_inflow; diversion = diversion; return_flow = return_flow })

-- the array of past inflows, which only a reach without lag may leave out
abbrev pub history_items_of : List ℕ → ℕ → Members → Result Items ModelRefusal
history_items_of at lag table =
    if lag == 0 then optional no_items items_of at (codes "history") table else required items_of at (codes "history") table

abbrev pub inflow_of : List ℕ → Data → Result ℤ ModelRefusal
inflow_of path value = number_read (neg_ℤ quantity_max) quantity_max path value

-- one past inflow for each timestep of the lag
abbrev pub history_of : List ℕ → ℕ → Members → Result (List ℤ) ModelRefusal
history_of at lag table = do
  items ← history_items_of at lag table
  inflows ← list_read inflow_of (key_path at (codes "history")) 1 items
  if length inflows == lag then Ok inflows else Err (out_of_range (key_path at (codes "history")))

unfoldable pub reach_of : List ℕ → Members → Result Kind ModelRefusal
reach_of at table = do
  lag ← optional 0 (count_read 0 LAG_MAX) at (codes "lag") table
  history ← history_of at lag table
  options ← options_of at table
  listed ← only_listed (object_keys (codes "lag" ∷ codes "history" ∷ codes "local_inflow" ∷ codes "diversion" ∷ codes "return_flow" ∷ [])) at table
  Ok (Reach lag history options.local_inflow options.diversion options.return_flow)

abbrev pub both_of : Option ℤ → Option ℤ → Option Row
both_of (Some elevation) (Some volume) = Some (elevation, volume)
both_of (Some elevation) None = None
both_of None volume = None

-- two integers, if there are no more
abbrev pub row_in : Items → Option Row
row_in (item elevation (item volume no_items)) = both_of (as_integer elevation) (as_integer volume)
row_in _ = None

abbrev pub row_or : List ℕ → Option Row → Result Row ModelRefusal
row_or path None = Err (wrong_kind path)
row_or path (Some row) = Ok row

-- an elevation and a volume
abbrev pub row_read : List ℕ → Data → Result Row ModelRefusal
row_read path (array pair) = row_or path (row_in pair)
row_read path _ = Err (wrong_kind path)

-- the table that rows make
abbrev pub rated : List ℕ → List Row → Result (List Row) ModelRefusal
rated path rows = refused_as (bad_table path) (table_of rows)

-- the table of elevations and volumes
abbrev pub rating_of : List ℕ → Data → Result (List Row) ModelRefusal
rating_of path value = do
  items ← items_of path value
  rows ← list_read row_read path 1 items
  rated path rows

-- the same, of a key that may be left out
abbrev pub given_rating : List ℕ → Data → Result (Option (List Row)) ModelRefusal
given_rating path value = rating_of path value >>= λ rows. Ok (Some rows)

unfoldable pub reservoir_of : List ℕ → Members → Result Kind ModelRefusal
reservoir_of at table = do
  initial_storage ← required (number_read (pos 0) quantity_max) at (codes "initial_storage") table
  rows ← optional None given_rating at (codes "table") table
  options ← options_of at table
  evaporation ← optional false truth_of at (codes "evaporation") table
  max_release ← optional None (given_number (pos 0) quantity_max) at (codes "max_release") table
  listed ← only_listed (object_keys (codes "initial_storage" ∷ codes "table" ∷ codes "local_inflow" ∷ codes "diversion" ∷ codes "return_flow" ∷ codes "evaporation" ∷ codes "max_release" ∷ [])) at table
  Ok (Reservoir initial_storage rows options.local_inflow options.diversion options.return_flow evaporation max_release)

unfoldable pub power_reservoir_of : List ℕ → Members → Result Kind ModelRefusal
power_reservoir_of at table = do
  initial_storage ← required (number_read (pos 0) quantity_max) at (codes "initial_storage") table
  rows ← required rating_of at (codes "table") table
  max_release ← required (number_read (pos 0) quantity_max) at (codes "max_release") table
  tailwater ← optional (pos 0) (number_read (pos 0) ELEVATION_MAX) at (codes "tailwater") table
  power ← required (count_read 1 POWER_MAX) at (codes "power") table
  listed ← only_listed (object_keys (codes "initial_storage" ∷ codes "table" ∷ codes "max_release" ∷ codes "tailwater" ∷ codes "power" ∷ [])) at table
  Ok (PowerReservoir initial_storage rows max_release tailwater power)

unfoldable pub routed_reach_of : List ℕ → Members → Result Kind ModelRefusal
routed_reach_of at table = do
  initial_content ← required (number_read (pos 0) quantity_max) at (codes "initial_content") table
  release ← required (count_read 1 PARTS) at (codes "release") table
  listed ← only_listed (object_keys (codes "initial_content" ∷ codes "release" ∷ [])) at table
  Ok (RoutedReach initial_content release)

-- ---- water users and canals

abbrev pub supply_of : List ℕ → Members → Result Supply ModelRefusal
supply_of at table = optional (codes "request") text_of at (codes "supply") table >>= λ word.
    known_or (key_path at (codes "supply")) (supply_in word)

unfoldable pub water_user_of : List ℕ → Members → Result Kind ModelRefusal
water_user_of at table = do
  depletion ← required (count_read 0 PARTS) at (codes "depletion") table
  supply ← supply_of at table
  listed ← only_listed (object_keys (codes "depletion" ∷ codes "supply" ∷ [])) at table
  Ok (WaterUser depletion supply)

unfoldable pub canal_of : List ℕ → Members → Result Kind ModelRefusal
canal_of at table = do
  seepage ← required (count_read 0 SEEPAGE_MAX) at (codes "seepage") table
  listed ← only_listed (object_keys (codes "seepage" ∷ [])) at table
  Ok (Canal seepage)

-- ---- any object

-- the keys of the kind that the word names
unfoldable pub kind_read : List ℕ → List ℕ → Members → Result Kind ModelRefusal
kind_read at word table =
    if bytes_eq (codes "data") word then data_of at table
    else (if bytes_eq (codes "gage") word then bare_of Gage at table
    else (if bytes_eq (codes "confluence") word then bare_of Confluence at table
    else (if bytes_eq (codes "bifurcation") word then bare_of Bifurcation at table
    else (if bytes_eq (codes "reach") word then reach_of at table
    else (if bytes_eq (codes "reservoir") word then reservoir_of at table
    else (if bytes_eq (codes "water_user") word then water_user_of at table
    else (if bytes_eq (codes "canal") word then canal_of at table
    else (if bytes_eq (codes "power_reservoir") word then power_reservoir_of at table
    else (if bytes_eq (codes "routed_reach") word then routed_reach_of at table
    else Err (unknown_kind (key_path at (codes "kind"))))))))))))

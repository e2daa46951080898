-- The values of timesteps before the run.
use Rattle.std.specs.Prelude.{ℕ, ◌==◌, if◌then◌else◌, ℤ, pos, int_le, nat_abs, List, reverse, slice_get, Option, Some, None, option_and_then}
use Rattle.std.specs.Ordering.{int_eq}
use Rattle.rw_table.specs.Table.{Row}
use Rattle.rw_table.specs.Curve.{elev_of}
use Rattle.rw_model.specs.declared.kind.Kind.{Kind}
use Rattle.rw_model.specs.declared.kind.Kind.TheVariants.{DataObject, Gage, Confluence, Bifurcation, Reach, Reservoir, WaterUser, Canal, PowerReservoir, RoutedReach}
use Rattle.rw_model.specs.Objects.{Object, object_at, slot_at}

-- the inflow of a timestep: the last of the history is that of step 0, the one before it that of step -1, and so on
abbrev pub past_inflow : List ℤ → ℤ → Option ℤ
past_inflow history step = if int_le step (pos 0) then slice_get (reverse history) (nat_abs step) else None

-- the storage before the first timestep in place 2, and in place 3 the elevation that it has in the table
abbrev pub past_storage : ℤ → Option (List Row) → ℕ → Option ℤ
past_storage initial_storage table place =
    if place == 2 then Some initial_storage else
    if place == 3 then option_and_then (λ rows. elev_of rows initial_storage) table else None

-- the content before the first timestep in place 2
abbrev pub past_content : ℤ → ℕ → Option ℤ
past_content initial_content place = if place == 2 then Some initial_content else None

-- the value of a kind's slot in a place at a timestep before the run, if it has one
abbrev pub initial_of_kind : Kind → ℕ → ℤ → Option ℤ
initial_of_kind (DataObject slots) place step = None
initial_of_kind Gage place step = None
initial_of_kind Confluence place step = None
initial_of_kind Bifurcation place step = None
initial_of_kind (Reach lag history local_inflow diversion return_flow) place step =
    if place == 0 then past_inflow history step else None
initial_of_kind (Reservoir initial_storage table local_inflow diversion return_flow evaporation max_release) place step =
    if int_eq step (pos 0) then past_storage initial_storage table place else None
initial_of_kind (WaterUser depletion supply) place step = None
initial_of_kind (Canal seepage) place step = None
initial_of_kind (PowerReservoir initial_storage table max_release tailwater power) place step =
    if int_eq step (pos 0) then past_storage initial_storage (Some table) place else None
initial_of_kind (RoutedReach initial_content release) place step =
    if int_eq step (pos 0) then past_content initial_content place else None

-- the value of a slot at a timestep before the run, if it has one
abbrev pub before_of : List Object → ℕ → ℤ → Option ℤ
before_of objects slot step =
    option_and_then (λ placed. option_and_then (λ object. initial_of_kind object.kind placed.place step) (object_at objects placed.owner))
    (slot_at objects slot)

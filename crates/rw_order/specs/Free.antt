-- Basins in which the order of dispatches doesn't matter.
use Rattle.std.specs.Prelude.{ℕ, ◌==◌, Bool, true, false, ◌&&◌, ◌||◌, not, List, option_map, option_and_then, unwrap_or}
use Rattle.std.specs.List.{list_all, list_any}
use Rattle.rw_model.specs.declared.kind.Kind.{Kind}
use Rattle.rw_model.specs.declared.kind.Kind.TheVariants.{Reservoir, Canal, PowerReservoir, RoutedReach}
use Rattle.rw_model.specs.Draft.{Draft}
use Rattle.rw_model.specs.Links.{group_of, slot_numbers}
use Rattle.rw_model.specs.Objects.{Object, Placed, object_at, slot_at}
use Rattle.rw_method.specs.declared.places.TheConstants.{POOL_ELEVATION, STORAGE}

-- what its terms are solved as is the same in any order: no water is lost between them or held back, and none is asked for
abbrev pub is_free : Kind → Bool
is_free (Canal seepage) = seepage == 0
is_free (PowerReservoir initial_storage table max_release tailwater power) = false
is_free (RoutedReach initial_content release) = false
is_free kind = true

-- a level is a reservoir's Storage or PoolElevation
abbrev pub has_level_in : ℕ → Kind → Bool
has_level_in place (Reservoir initial_storage table local_inflow diversion return_flow evaporation max_release) = place == STORAGE || place == POOL_ELEVATION
has_level_in place kind = false

abbrev pub is_level : List Object → ℕ → Bool
is_level objects slot =
    unwrap_or (option_and_then (λ (placed : Placed). option_map (λ (object : Object). has_level_in placed.place object.kind) (object_at objects placed.owner))
    (slot_at objects slot)) false

-- another level carries one value with the slot
abbrev pub has_other_level : Draft → ℕ → Bool
has_other_level basin slot =
    list_any (λ other. not (other == slot) && is_level basin.objects other) (group_of basin.objects basin.links slot)

-- a link joins levels. They are of two reservoirs, since a link joins no two slots of one object
abbrev pub joins_levels : Draft → Bool
joins_levels basin = list_any (λ slot. is_level basin.objects slot && has_other_level basin slot) (slot_numbers basin.objects)

-- no canal loses water, there is no power reservoir and no routed reach, and no link joins levels
abbrev pub order_free : Draft → Bool
order_free basin = list_all (λ (object : Object). is_free object.kind) basin.objects && not (joins_levels basin)

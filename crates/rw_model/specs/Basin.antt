-- When a basin is valid, and what is wrong with what a builder was told where it makes none.
use Rattle.std.specs.Prelude.{◌≡◌, ℕ, ◌==◌, ◌*◌, ◌≤◌, nat_le, Bool, true, false, int_lt, IsTrue, if◌then◌else◌, List, length, map, All, Contains, Option, Some, None, bytes_eq}
use Rattle.std.specs.List.{list_any, filter, IsDistinct}
use Rattle.rw_model.specs.declared.limits.TheConstants.{CELLS_MAX, LINK_MAX, OBJECTS_MAX, SLOTS_MAX}
use Rattle.rw_model.specs.Refusal.{BuildRefusal, link_bounds, bad_parameter, too_many}
use Rattle.rw_model.specs.declared.role.Role.{Role}
use Rattle.rw_model.specs.declared.role.Role.TheVariants.{Solvable, Fixed, Derived, Neither}
use Rattle.rw_model.specs.Slot.{Bounds}
use Rattle.rw_model.specs.Objects.{Object, all_slots}
use Rattle.rw_model.specs.Draft.{Draft, Bound, IsControl, IsSound, IsSlot, IsWithinWidest, has_distinct_slots}
use Rattle.rw_model.specs.Links.{owner_of, dim_of, slot_numbers, bounds_in}

-- a link of 2 to 8 slots of different objects, which all measure the same
pub record IsLink (objects : List Object) (link : List ℕ) : Type 0 where
  pub some : 2 ≤ length link
  pub few : length link ≤ LINK_MAX
  pub known : All (IsSlot objects) link
  pub apart : IsDistinct (λ (a : ℕ) b. a == b) (map (owner_of objects) link)
  pub alike : (a b : ℕ) → Contains link a → Contains link b → dim_of objects a ≡ dim_of objects b

-- a slot has so many links
abbrev pub link_count : List (List ℕ) → ℕ → ℕ
link_count links slot = length (filter (list_any (λ other. slot == other)) links)

-- bounds that the slot can have
pub record IsBound (objects : List Object) (bound : Bound) : Type 0 where
  pub known : IsSlot objects bound.slot
  pub within : IsWithinWidest objects bound.slot bound.bounds

-- objects with names of their own and parameters in range, links that share no slot, and bounds for a slot at most once
pub record IsDraft (draft : Draft) : Type 0 where
  pub control : IsControl draft.control
  pub sound : All IsSound draft.objects
  pub names : IsDistinct bytes_eq (map (λ (object : Object). object.name) draft.objects)
  pub slots : All (λ (object : Object). IsTrue (has_distinct_slots object.kind)) draft.objects
  pub few_objects : length draft.objects ≤ OBJECTS_MAX
  pub few_slots : length (all_slots draft.objects) ≤ SLOTS_MAX
  pub links : All (IsLink draft.objects) draft.links
  pub once : (slot : ℕ) → link_count draft.links slot ≤ 1
  pub bounds : All (IsBound draft.objects) draft.bounds
  pub bound_once : IsDistinct (λ (a : ℕ) b. a == b) (map (λ (bound : Bound). bound.slot) draft.bounds)

-- how many values the slots have over all timesteps
abbrev pub basin_cell_count : Draft → ℕ
basin_cell_count draft = length (all_slots draft.objects) * draft.control.stamps.count

-- no value is between them
abbrev pub is_crossed : Bounds → Bool
is_crossed bounds = int_lt bounds.1 bounds.0

-- there is a slot whose group can have no value
abbrev pub has_crossed_bounds : Draft → Bool
has_crossed_bounds draft =
    list_any (λ slot. is_crossed (bounds_in draft.objects draft.links draft.bounds slot)) (slot_numbers draft.objects)

-- a basin: at least one object, at most 1000000 values, and each slot can have a value
pub record IsBasin (draft : Draft) : Type 0 where
  pub whole : IsDraft draft
  pub some : 1 ≤ length draft.objects
  pub few_cells : basin_cell_count draft ≤ CELLS_MAX
  pub meets : has_crossed_bounds draft ≡ false

-- why what a builder was told is no basin, if it isn't: it has no object, or too many values, or a group can have none
abbrev pub finish_refusal : Draft → Option BuildRefusal
finish_refusal draft =
    if nat_le (length draft.objects) 0 then Some bad_parameter else
    if nat_le (basin_cell_count draft) CELLS_MAX then (if has_crossed_bounds draft then Some link_bounds else None) else Some (too_many CELLS_MAX)

-- all slots but those that a method derives can be set by inputs and rules
abbrev pub is_settable : Role → Bool
is_settable Solvable = true
is_settable Fixed = true
is_settable Derived = false
is_settable Neither = true

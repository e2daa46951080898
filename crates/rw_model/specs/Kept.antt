-- How objects and slots are kept: an object by its name, and a slot by its owner and place.
use Rattle.std.specs.Prelude.{◌≡◌, ℕ, ◌+◌, ◌*◌, ◌/◌, ◌%◌, ◌≤◌, List, [], ◌∷◌, length, map, All, Bool, Option, Some, None, slice_index_or, string_bytes}
use Rattle.std.specs.declared.vec.Vec.{Vec}
use Rattle.rw_model.specs.declared.limits.TheConstants.{OBJECTS_MAX, SLOTS_MAX}
use Rattle.rw_base.specs.declared.number.SlotNo.{SlotNo}
use Rattle.std.specs.declared.string.String.{String}
use Rattle.rw_model.specs.declared.kind.Kind.{Kind}
use Rattle.rw_model.specs.declared.place.Place.{Place}
use Rattle.rw_model.specs.Slot.{Bounds}
use Rattle.rw_model.specs.Draft.{Draft, Bound}
use Rattle.rw_model.specs.Slots.{slots_of}
use Rattle.rw_model.specs.Links.{link_of, is_same_link, slot_numbers, bounds_in}
use Rattle.rw_model.specs.Basin.{IsBasin}
use Rattle.std.specs.List.{filter, range_with_len}
use Rattle.rw_model.specs.Objects.{Object, Placed, placed_from, all_slots, slot_in_place}

abbrev pub objects_kept : {A : Type 0} → List (String A × Kind) → List Object
objects_kept {A} entries = map (λ (entry : String A × Kind). record { name = string_bytes entry.0; kind = entry.1 }) entries

abbrev pub place_of : Placed → Place
place_of placed = record { owner = placed.owner; place = placed.place }

-- for each object, how many slots stand before its own
abbrev pub firsts_from : ℕ → ℕ → List Object → List ℕ
firsts_from number before [] = []
firsts_from number before (object ∷ objects) =
    before ∷ firsts_from (number + 1) (before + length (placed_from number 0 (slots_of object.kind))) objects

pub record KeepsSlots (objects : List Object) (places : List Place) (firsts : List ℕ) : Type 0 where
  pub stand : places ≡ map place_of (all_slots objects)
  pub begin : firsts ≡ firsts_from 1 0 objects
  pub few_places : All (λ (object : Object). length (slots_of object.kind) ≤ 11) objects
  pub few_objects : length objects ≤ OBJECTS_MAX
  pub few_slots : length (all_slots objects) ≤ SLOTS_MAX

-- the bounds of their own that the map's slots have
abbrev pub bounds_of : List (ℕ × Bounds) → List Bound
bounds_of entries = map (λ (entry : ℕ × Bounds). record { slot = entry.0; bounds = entry.1 }) entries

-- the numbers that slots have
abbrev pub numbers_of : List SlotNo → List ℕ
numbers_of slots = map (λ (slot : SlotNo). slot.0) slots

abbrev pub links_of : {A : Type 0} → List (Vec SlotNo A) → List (List ℕ)
links_of {A} links = map (λ (link : Vec SlotNo A). numbers_of link.items) links

-- beside each slot stands the place of the link that has it
abbrev pub KeepsPlaces : List (List ℕ) → List (Option ℕ) → Type 0
KeepsPlaces links places = (k : ℕ) → slice_index_or places k None ≡ link_of links (k + 1)

-- the slot stands in the link in this place
abbrev pub is_in_link : List (List ℕ) → ℕ → ℕ → Bool
is_in_link links place slot = is_same_link (Some place) (link_of links slot)

-- for each link its slots, rising, of a basin with so many slots
pub record KeepsGroups (links : List (List ℕ)) (count : ℕ) (groups : List (List ℕ)) : Type 0 where
  pub every : length groups ≡ length links
  pub each : (place : ℕ) → slice_index_or groups place [] ≡ filter (is_in_link links place) (range_with_len 1 count)

-- the slot that stands so far from the first place of the first object, where each object has twelve places
abbrev pub number_at : List Object → ℕ → Option ℕ
number_at objects far = slot_in_place objects (far / 12 + 1) (far % 12)

-- the slots in all places of the objects, so many of them
abbrev pub numbers_up_to : List Object → ℕ → List (Option ℕ)
numbers_up_to objects count = map (number_at objects) (range_with_len 0 count)

-- a valid basin, its slots, the groups that its links make, what bounds leave each slot, and the slots by object and place
pub record KeepsBasin (draft : Draft) (slots : List ℕ) (groups : List (List ℕ)) (bounds : List Bounds) (numbers : List (Option ℕ)) : Type 0 where
  pub valid : IsBasin draft
  pub slots_are : slots ≡ slot_numbers draft.objects
  pub groups_are : KeepsGroups draft.links (length (all_slots draft.objects)) groups
  pub bounds_are : bounds ≡ map (bounds_in draft.objects draft.links draft.bounds) (slot_numbers draft.objects)
  pub numbers_are : numbers ≡ numbers_up_to draft.objects (length draft.objects * 12)

-- Links between slots: what is wrong with a link, the groups that links make, and which values the bounds of a group leave.
use Rattle.std.specs.Prelude.{ℕ, ℤ, ◌≤ℤ◌, ◌+◌, ◌==◌, nat_le, Bool, true, false, ◌&&◌, ◌||◌, not, if◌then◌else◌, List, [], ◌∷◌, ◌++◌, length, Option, Some, None, is_some, pos, option_map, unwrap_or, option_and_then}
use Rattle.std.specs.Prelude.{slice_get}
use Rattle.std.specs.List.{list_any, filter, range_with_len}
use Rattle.std.specs.Option.{option_or}
use Rattle.std.specs.Ordering.{int_eq}
use Rattle.std.specs.Int.{int_max, int_min}
use Rattle.rw_base.specs.Dimension.{Dimension, dimension}
use Rattle.rw_model.specs.declared.limits.TheConstants.{LINK_MAX}
use Rattle.rw_model.specs.Refusal.{BuildRefusal, unknown_slot, linked_twice, link_within_object, link_dimension, bad_parameter}
use Rattle.rw_model.specs.Slot.{Bounds, all_quantities}
use Rattle.rw_model.specs.Objects.{Object, all_slots, slot_at}
use Rattle.rw_model.specs.Draft.{Bound, bound_of}

-- ---- what is wrong with a link

-- a slot has this number
abbrev pub is_slot : List Object → ℕ → Bool
is_slot objects slot = nat_le 1 slot && nat_le slot (length (all_slots objects))

-- the object that owns the slot, and 0 where there is no such slot
abbrev pub owner_of : List Object → ℕ → ℕ
owner_of objects slot = unwrap_or (option_map (λ placed. placed.owner) (slot_at objects slot)) 0

-- what the slot measures, and a plain number where there is no such slot
abbrev pub dim_of : List Object → ℕ → Dimension
dim_of objects slot = unwrap_or (option_map (λ placed. placed.slot.dim) (slot_at objects slot)) (dimension (pos 0) (pos 0) (pos 0) (pos 0))

-- the slot is one of these
abbrev pub is_among : ℕ → List ℕ → Bool
is_among slot slots = list_any (λ other. slot == other) slots

-- the place of the first link that has the slot, where places count from the one that is given
abbrev pub link_from : ℕ → List (List ℕ) → ℕ → Option ℕ
link_from place [] slot = None
link_from place (link ∷ links) slot = if is_among slot link then Some place else link_from (place + 1) links slot

-- the place of the link that has the slot, counted from 0, if one has it
abbrev pub link_of : List (List ℕ) → ℕ → Option ℕ
link_of links slot = link_from 0 links slot

-- both have the same exponents
abbrev pub is_same_dim : Dimension → Dimension → Bool
is_same_dim a b = int_eq a.volume b.volume && int_eq a.length b.length && int_eq a.step b.step && int_eq a.energy b.energy

-- the slot measures what the first of the slots measures, if there is one
abbrev pub measures_alike : List Object → ℕ → List ℕ → Bool
measures_alike objects slot [] = true
measures_alike objects slot (first ∷ slots) = is_same_dim (dim_of objects first) (dim_of objects slot)

-- the object of the slot has one of the slots
abbrev pub shares_owner : List Object → ℕ → List ℕ → Bool
shares_owner objects slot slots = list_any (λ other. owner_of objects slot == owner_of objects other) slots

-- what is wrong with a slot that a link names after others, if something is
abbrev pub join_refusal : List Object → List (List ℕ) → List ℕ → ℕ → Option BuildRefusal
join_refusal objects links before slot =
    if not (is_slot objects slot) then Some unknown_slot else
    if is_some (link_of links slot) then Some linked_twice else
    if shares_owner objects slot before then Some link_within_object else
    if measures_alike objects slot before then None else Some link_dimension

-- the first of these slots with which something is wrong, where a link names others before them
abbrev pub joins_refusal : List Object → List (List ℕ) → List ℕ → List ℕ → Option BuildRefusal
joins_refusal objects links before [] = None
joins_refusal objects links before (slot ∷ slots) =
    option_or (join_refusal objects links before slot) (joins_refusal objects links (before ++ slot ∷ []) slots)

-- what is wrong with a link, if something is: it has 2 to 8 slots, and then slot by slot
abbrev pub link_refusal : List Object → List (List ℕ) → List ℕ → Option BuildRefusal
link_refusal objects links slots =
    if nat_le 2 (length slots) && nat_le (length slots) LINK_MAX then joins_refusal objects links [] slots else Some bad_parameter

-- ---- the groups that links make

abbrev pub is_same_link : Option ℕ → Option ℕ → Bool
is_same_link None other = false
is_same_link (Some link) None = false
is_same_link (Some link) (Some other) = link == other

-- the slots are the same, or one link has both
abbrev pub is_together : List (List ℕ) → ℕ → ℕ → Bool
is_together links slot other = slot == other || is_same_link (link_of links slot) (link_of links other)

-- the numbers of all slots, rising
abbrev pub slot_numbers : List Object → List ℕ
slot_numbers objects = range_with_len 1 (length (all_slots objects))

-- the slots that carry one value with this one, itself among them, rising
abbrev pub group_of : List Object → List (List ℕ) → ℕ → List ℕ
group_of objects links slot = filter (is_together links slot) (slot_numbers objects)

-- ---- the values that bounds leave

-- a value from the least to the greatest
pub record IsBetween (bounds : Bounds) (value : ℤ) : Type 0 where
  pub low : bounds.0 ≤ℤ value
  pub high : value ≤ℤ bounds.1

-- the bounds of its own that the slot has, and its usual ones where it has none
abbrev pub own_bounds : List Object → List Bound → ℕ → Bounds
own_bounds objects own slot =
    unwrap_or (bound_of own slot) (unwrap_or (option_map (λ placed. placed.slot.usual) (slot_at objects slot)) all_quantities)

-- what is between both
abbrev pub meet : Bounds → Bounds → Bounds
meet a b = (int_max a.0 b.0, int_min a.1 b.1)

-- what is between these bounds, and between those of each of the slots
abbrev pub meet_all : List Object → List Bound → Bounds → List ℕ → Bounds
meet_all objects own bounds [] = bounds
meet_all objects own bounds (slot ∷ slots) = meet_all objects own (meet bounds (own_bounds objects own slot)) slots

-- the slots of the link that has the slot, and none where none has it
abbrev pub linked_with : List (List ℕ) → ℕ → List ℕ
linked_with links slot = unwrap_or (option_and_then (λ place. slice_get links place) (link_of links slot)) []

-- the values that a slot can have, which all slots of its link can have
abbrev pub bounds_in : List Object → List (List ℕ) → List Bound → ℕ → Bounds
bounds_in objects links own slot = meet_all objects own (own_bounds objects own slot) (linked_with links slot)

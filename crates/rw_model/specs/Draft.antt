-- What a builder was told, and what it can be told next.
use Rattle.std.specs.Option.{ForSome}
use Rattle.rw_model.specs.declared.limits.TheConstants.{OBJECTS_MAX, SLOTS_MAX}
use Rattle.rw_model.specs.Slot.{Bounds, IsInside}
use Rattle.std.specs.Prelude.{Option, ◌==◌, if◌then◌else◌, Some, ◌≡◌, ℕ, ◌≤◌, Bool, true, false, ◌&&◌, ◌||◌, ◌⊎◌, not, IsTrue, List, [], ◌∷◌, ◌++◌, length, None, bytes_eq}
use Rattle.rw_calendar.specs.Stamps.{AreTimesteps}
use Rattle.rw_model.specs.declared.control.RunControl.{RunControl}
use Rattle.rw_model.specs.declared.data_slots.DataSlot.{DataSlot}
use Rattle.rw_model.specs.declared.kind.Kind.{Kind}
use Rattle.rw_model.specs.declared.kind.Kind.TheVariants.{DataObject, Gage, Confluence, Bifurcation, Reach, Reservoir, WaterUser, Canal, PowerReservoir, RoutedReach}
use Rattle.rw_model.specs.Name.{IsName}
use Rattle.rw_model.specs.Kind.{IsKind}
use Rattle.rw_model.specs.Objects.{Object, object_named, all_slots, slot_at}

-- the bounds of its own that one slot has
pub record Bound : Type 0 where
  pub slot : ℕ
  pub bounds : Bounds

-- what a builder was told so far
pub record Draft : Type 0 where
  pub control : RunControl
  pub objects : List Object
  pub links : List (List ℕ)
  pub bounds : List Bound

-- timesteps of a run, and limits in range. Rules put at the timestep in which they fire, or up to 30 ahead
pub record IsControl (control : RunControl) : Type 0 where
  pub timesteps : AreTimesteps control.stamps
  pub least_object : 16 ≤ control.object_limit
  pub most_object : control.object_limit ≤ 100
  pub least_rule : 1 ≤ control.rule_limit
  pub most_rule : control.rule_limit ≤ 100
  pub ahead : (control.ahead ≡ 0) ⊎ (control.ahead ≡ 30)

-- one of the slots has this name
abbrev pub has_slot_named : List ℕ → List DataSlot → Bool
has_slot_named name [] = false
has_slot_named name (slot ∷ slots) = bytes_eq name slot.name || has_slot_named name slots

-- no slot has the name of a later one
abbrev pub has_distinct_names : List DataSlot → Bool
has_distinct_names [] = true
has_distinct_names (slot ∷ slots) = not (has_slot_named slot.name slots) && has_distinct_names slots

-- no two slots of the kind have the same name
abbrev pub has_distinct_slots : Kind → Bool
has_distinct_slots (DataObject slots) = has_distinct_names slots
has_distinct_slots Gage = true
has_distinct_slots Confluence = true
has_distinct_slots Bifurcation = true
has_distinct_slots (Reach lag history local_inflow diversion return_flow) = true
has_distinct_slots (Reservoir initial_storage table local_inflow diversion return_flow evaporation max_release) = true
has_distinct_slots (WaterUser depletion supply) = true
has_distinct_slots (Canal seepage) = true
has_distinct_slots (PowerReservoir initial_storage table max_release tailwater power) = true
has_distinct_slots (RoutedReach initial_content release) = true

-- the object has a name, and its parameters are in range
pub record IsSound (object : Object) : Type 0 where
  pub name : IsName object.name
  pub kind : IsKind object.kind

-- no other object has its name, and its slots have different names
pub record IsFresh (objects : List Object) (object : Object) : Type 0 where
  pub name : object_named objects object.name ≡ None
  pub slots : IsTrue (has_distinct_slots object.kind)

-- the object can be added to the objects that there are
pub record CanAdd (objects : List Object) (object : Object) : Type 0 where
  pub sound : IsSound object
  pub fresh : IsFresh objects object
  pub few_objects : length (objects ++ object ∷ []) ≤ OBJECTS_MAX
  pub few_slots : length (all_slots (objects ++ object ∷ [])) ≤ SLOTS_MAX

-- the bounds of its own that the slot has, if it has any
abbrev pub bound_of : List Bound → ℕ → Option Bounds
bound_of [] slot = None
bound_of (bound ∷ bounds) slot = if slot == bound.slot then Some bound.bounds else bound_of bounds slot

-- the number of a slot
pub record IsSlot (objects : List Object) (slot : ℕ) : Type 0 where
  pub first : 1 ≤ slot
  pub last : slot ≤ length (all_slots objects)

-- the number of an object
pub record IsObject (objects : List Object) (object : ℕ) : Type 0 where
  pub first : 1 ≤ object
  pub last : object ≤ length objects

-- bounds that the slot can have
abbrev pub IsWithinWidest : List Object → ℕ → Bounds → Type 0
IsWithinWidest objects slot bounds = ForSome (slot_at objects slot) (λ placed. IsInside bounds placed.slot.widest)

-- the slot can have the bounds as its own
pub record CanBound (objects : List Object) (own : List Bound) (slot : ℕ) (bounds : Bounds) : Type 0 where
  pub known : IsSlot objects slot
  pub free : bound_of own slot ≡ None
  pub within : IsWithinWidest objects slot bounds

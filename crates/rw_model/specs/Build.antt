-- What a builder makes of what it is told, and what it refuses.
use Rattle.std.specs.Prelude.{ℕ, nat_lt, int_le, Bool, true, ◌&&◌, not, if◌then◌else◌, List, [], ◌∷◌, ◌++◌, length, Option, None, Some, is_some, Result}
use Rattle.rw_model.specs.declared.limits.TheConstants.{OBJECTS_MAX, SLOTS_MAX}
use Rattle.rw_base.specs.Answers.{unless_refused}
use Rattle.rw_model.specs.Name.{is_name}
use Rattle.rw_model.specs.Kind.{is_kind}
use Rattle.rw_model.specs.Slot.{Bounds}
use Rattle.rw_model.specs.Objects.{Object, Placed, object_named, all_slots, slot_at}
use Rattle.rw_model.specs.Draft.{Draft, Bound, has_distinct_slots, bound_of}
use Rattle.rw_model.specs.Links.{is_slot, link_refusal}
use Rattle.rw_model.specs.Basin.{finish_refusal}
use Rattle.rw_model.specs.Refusal.{BuildRefusal, duplicate_name, unknown_slot, bad_parameter, too_many}

-- ---- objects

-- the object has a name, and its parameters are in range
abbrev pub is_sound : Object → Bool
is_sound object = is_name object.name && is_kind object.kind

-- no other object has its name, and its slots have different names
abbrev pub is_fresh : List Object → Object → Bool
is_fresh objects object = not (is_some (object_named objects object.name)) && has_distinct_slots object.kind

-- there are too many objects, or they have too many slots
abbrev pub size_refusal : List Object → Option BuildRefusal
size_refusal objects =
    if nat_lt OBJECTS_MAX (length objects) then Some (too_many OBJECTS_MAX)
    else (if nat_lt SLOTS_MAX (length (all_slots objects)) then Some (too_many SLOTS_MAX) else None)

-- why an object isn't added to others, if it isn't
abbrev pub object_refusal : List Object → Object → Option BuildRefusal
object_refusal objects object =
    if is_sound object
    then (if is_fresh objects object then size_refusal (objects ++ object ∷ []) else Some duplicate_name)
    else Some bad_parameter

-- with one object more
abbrev pub with_object : Draft → Object → Result Draft BuildRefusal
with_object draft object =
    unless_refused (object_refusal draft.objects object) (record draft { objects = draft.objects ++ object ∷ [] })

-- ---- links

-- with one link more
abbrev pub with_link : Draft → List ℕ → Result Draft BuildRefusal
with_link draft slots =
    unless_refused (link_refusal draft.objects draft.links slots) (record draft { links = draft.links ++ slots ∷ [] })

-- ---- bounds

-- bounds whose least isn't above their greatest, and that lie within the widest of the slot, if there is a slot
abbrev pub is_allowed : Option Placed → Bounds → Bool
is_allowed None bounds = true
is_allowed (Some placed) bounds =
    int_le bounds.0 bounds.1 && (int_le placed.slot.widest.0 bounds.0 && int_le bounds.1 placed.slot.widest.1)

-- why a slot can't have the bounds as its own, if it can't. It has bounds of its own at most once
abbrev pub bound_refusal : List Object → List Bound → ℕ → Bounds → Option BuildRefusal
bound_refusal objects own slot bounds =
    if is_slot objects slot
    then (if is_some (bound_of own slot)
    then Some duplicate_name
    else (if is_allowed (slot_at objects slot) bounds then None else Some bad_parameter))
    else Some unknown_slot

-- with bounds for one slot more
abbrev pub with_bound : Draft → ℕ → Bounds → Result Draft BuildRefusal
with_bound draft slot bounds =
    unless_refused (bound_refusal draft.objects draft.bounds slot bounds)
    (record draft { bounds = draft.bounds ++ record { slot = slot; bounds = bounds } ∷ [] })

-- ---- the basin

abbrev pub finished : Draft → Result Draft BuildRefusal
finished draft = unless_refused (finish_refusal draft) draft

-- The objects of a basin, and its slots, which are those of the objects, one object after another.
use Rattle.std.specs.Prelude.{ℕ, ◌+◌, ◌-◌, ◌==◌, ◌&&◌, nat_le, Bool, List, [], ◌∷◌, ◌++◌, Option, Some, None, if◌then◌else◌, bytes_eq, slice_get, option_and_then}
use Rattle.rw_model.specs.declared.kind.Kind.{Kind}
use Rattle.rw_model.specs.Slot.{Slot}
use Rattle.rw_model.specs.Slots.{slots_of}

-- an object of a basin
pub record Object : Type 0 where
  pub name : List ℕ
  pub kind : Kind

-- a slot of a basin: the object that owns it, in which place, and what it is
pub record Placed : Type 0 where
  pub owner : ℕ
  pub place : ℕ
  pub slot : Slot

-- the slots of one object in these places, which count from the one that is given
abbrev pub placed_from : ℕ → ℕ → List (Option Slot) → List Placed
placed_from owner place [] = []
placed_from owner place (None ∷ slots) = placed_from owner (place + 1) slots
placed_from owner place (Some slot ∷ slots) =
    record { owner = owner; place = place; slot = slot } ∷ placed_from owner (place + 1) slots

-- the slots of objects, which are numbered from the one that is given
abbrev pub slots_from : ℕ → List Object → List Placed
slots_from number [] = []
slots_from number (object ∷ objects) = placed_from number 0 (slots_of object.kind) ++ slots_from (number + 1) objects

-- all slots, in the order of their numbers, which count from 1
abbrev pub all_slots : List Object → List Placed
all_slots objects = slots_from 1 objects

-- what stands in a place, where places count from 1: nothing in place 0
abbrev pub numbered : {A : Type 0} → List A → ℕ → Option A
numbered things number = if nat_le 1 number then slice_get things (number - 1) else None

-- the number of the object with this name, if there is one, where they are numbered from the one that is given
abbrev pub object_from : ℕ → List Object → List ℕ → Option ℕ
object_from number [] name = None
object_from number (object ∷ objects) name =
    if bytes_eq name object.name then Some number else object_from (number + 1) objects name

-- the number of the object with this name, if there is one
abbrev pub object_named : List Object → List ℕ → Option ℕ
object_named objects name = object_from 1 objects name

-- the object of this number, if there is one
abbrev pub object_at : List Object → ℕ → Option Object
object_at objects number = numbered objects number

-- the slot of this number, if there is one
abbrev pub slot_at : List Object → ℕ → Option Placed
slot_at objects number = numbered (all_slots objects) number

-- the number of the first slot that passes the test, where they are numbered from the one that is given
abbrev pub first_from : ℕ → (Placed → Bool) → List Placed → Option ℕ
first_from number test [] = None
first_from number test (placed ∷ slots) = if test placed then Some number else first_from (number + 1) test slots

-- an object's slot in a place
abbrev pub is_in_place : ℕ → ℕ → Placed → Bool
is_in_place owner place placed = placed.owner == owner && placed.place == place

-- an object's slot of a name
abbrev pub is_named : ℕ → List ℕ → Placed → Bool
is_named owner name placed = placed.owner == owner && bytes_eq name placed.slot.name

-- the number of an object's slot in a place, if it has one there
abbrev pub slot_in_place : List Object → ℕ → ℕ → Option ℕ
slot_in_place objects owner place = first_from 1 (is_in_place owner place) (all_slots objects)

-- the number of the slot with this name, of the object with that name, if there are both
abbrev pub slot_named : List Object → List ℕ → List ℕ → Option ℕ
slot_named objects object name =
    option_and_then (λ owner. first_from 1 (is_named owner name) (all_slots objects)) (object_named objects object)

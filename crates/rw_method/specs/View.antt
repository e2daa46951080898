-- What an object sees in a dispatch.
use Rattle.std.specs.Prelude.{ℕ, ◌≡◌, ◌<◌, if◌then◌else◌, ℤ, pos, ◌≤ℤ◌, int_le, Bool, ◌&&◌, Option, None, Some, option_map, slice_index_or}
use Rattle.std.specs.Option.{ForSome}
use Rattle.rw_base.specs.declared.number.ObjectNo.{ObjectNo}
use Rattle.rw_model.specs.declared.writer.Writer.TheVariants.{Object}
use Rattle.rw_model.specs.declared.content.Content.{Content}
use Rattle.rw_model.specs.declared.kind.Kind.{Kind}
use Rattle.rw_model.specs.Kind.{IsKind}
use Rattle.rw_model.specs.Put.{is_same_object}
use Rattle.rw_model.specs.Slot.{Slot, Bounds}
use Rattle.rw_model.specs.Slots.{slot_in}
use Rattle.rw_method.specs.declared.given.Given.{Given}
use Rattle.rw_method.specs.declared.view.View.{View}

-- what stands in a place, if it is known
abbrev pub known : View → ℕ → Option Content
known view place = slice_index_or view.now place None

-- the value that stands in a place
abbrev pub known_value : View → ℕ → Option ℤ
known_value view place = option_map (λ (content : Content). content.value) (known view place)

-- a value is given by another than the object itself
abbrev pub given_by : ObjectNo → Option Content → Option Given
given_by own None = None
given_by own (Some content) =
    if is_same_object content.writer (Object own) then None else Some (record { value = content.value; number = content.number })

-- what is given in a place: it is known there, and the object didn't write it itself
abbrev pub given : View → ℕ → Option Given
given view place = given_by view.own (known view place)

-- the least and the greatest value of the slot in a place
abbrev pub bounds_in_view : View → ℕ → Bounds
bounds_in_view view place = slice_index_or view.bounds place (pos 0, pos 0)

abbrev pub is_between : Bounds → ℤ → Bool
is_between bounds value = int_le bounds.0 value && int_le value bounds.1

-- a slot's bounds are within the widest, and a known value is within them
pub record IsBounded (bounds : Bounds) (slot : Slot) (value : Option ℤ) : Type 0 where
  pub low : slot.widest.0 ≤ℤ bounds.0
  pub high : bounds.1 ≤ℤ slot.widest.1
  pub inside : ForSome value (λ z. (bounds.0 ≤ℤ z) × (z ≤ℤ bounds.1))

-- a view of an object of a kind: the kind's parameters are in range, nothing is known where it has no slot, and each slot is bounded
pub record IsViewOf (kind : Kind) (view : View) : Type 0 where
  pub parameters : IsKind kind
  pub absent : (place : ℕ) → place < 12 → slot_in kind place ≡ None → known view place ≡ None
  pub bounded : (place : ℕ) (slot : Slot) → place < 12 → slot_in kind place ≡ Some slot → IsBounded (bounds_in_view view place) slot (known_value view place)

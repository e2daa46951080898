-- When what an object sees in one place is that of its kind.
use Rattle.std.specs.Prelude.{ℕ, ◌≡◌, None, Some}
use Rattle.rw_model.specs.declared.kind.Kind.{Kind}
use Rattle.rw_model.specs.Slot.{Slot}
use Rattle.rw_model.specs.Slots.{slot_in}
use Rattle.rw_method.specs.declared.view.View.{View}
use Rattle.rw_method.specs.View.{known, known_value, bounds_in_view, IsBounded}

-- nothing is known where there is no slot, and a slot is bounded
pub record IsPlaced (kind : Kind) (view : View) (place : ℕ) : Type 0 where
  pub absent : slot_in kind place ≡ None → known view place ≡ None
  pub bounded : (slot : Slot) → slot_in kind place ≡ Some slot → IsBounded (bounds_in_view view place) slot (known_value view place)

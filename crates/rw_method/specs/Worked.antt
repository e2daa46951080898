-- Views for worked examples.
use Rattle.std.specs.Prelude.{ℕ, ℤ, pos, List, [], ◌∷◌, ◌++◌, map, replicate, length, ◌-◌, Option, None, Some}
use Rattle.rw_base.specs.declared.number.ObjectNo.{ObjectNo}
use Rattle.rw_base.specs.declared.number.RuleNo.{RuleNo}
use Rattle.rw_model.specs.declared.content.Content.{Content}
use Rattle.rw_model.specs.declared.kind.Kind.{Kind}
use Rattle.rw_model.specs.declared.kind.Kind.TheVariants.{PowerReservoir}
use Rattle.rw_model.specs.declared.writer.Writer.TheVariants.{Input, Object, Rule}
use Rattle.rw_model.specs.Slot.{Slot, Bounds}
use Rattle.rw_model.specs.Slots.{slots_of}
use Rattle.rw_table.specs.Table.{Row}
use Rattle.rw_method.specs.declared.view.View.{View}

-- given as an input
abbrev pub input : ℤ → Option Content
input value = Some (record { value = value; number = 0; writer = Input })

-- set by a rule
abbrev pub set_by_rule : RuleNo → ℤ → ℕ → Option Content
set_by_rule rule value number = Some (record { value = value; number = number; writer = Rule rule })

-- written by an object
abbrev pub by_object : ObjectNo → ℤ → ℕ → Option Content
by_object object value number = Some (record { value = value; number = number; writer = Object object })

abbrev pub object : ℕ → ObjectNo
object n = record { 0 = n }

-- the bounds of a slot for which none are set
abbrev pub usual_bounds : Option Slot → Bounds
usual_bounds None = (pos 0, pos 0)
usual_bounds (Some slot) = slot.usual

-- the twelve places, of which these are the first
abbrev pub twelve : {X : Type 0} → X → List X → List X
twelve blank first = first ++ replicate (12 - length first) blank

-- the first slots of an object of this kind hold these, and the others nothing
abbrev pub view_with : Kind → ObjectNo → Option ℤ → List (Option Content) → View
view_with kind own past now = record {
  own = own;
  now = twelve None now;
  past = past;
  bounds = twelve (pos 0, pos 0) (map usual_bounds (slots_of kind));
}

-- half a cubic metre to a millimetre up to the second row, and from there on a whole one
abbrev pub worked_rows : List Row
worked_rows = (pos 0, pos 0) ∷ (pos 1000, pos 500) ∷ (pos 3000, pos 2500) ∷ []

-- a power reservoir of 10 m3 to each mm, up to 100 m, with a tailwater at 10 m, 2500 kWh for 10^9 m3 that fall by 1 mm, and 1000 m3/step to be
-- released at most
abbrev pub high_dam : Kind
high_dam = PowerReservoir (pos 500000) ((pos 0, pos 0) ∷ (pos 100000, pos 1000000) ∷ []) (pos 1000) (pos 10000) 2500

-- a low one, whose elevations can be counted out
abbrev pub low_dam : Kind
low_dam = PowerReservoir (pos 3000) ((pos 0, pos 0) ∷ (pos 500, pos 5000) ∷ []) (pos 1000) (pos 100) 10000

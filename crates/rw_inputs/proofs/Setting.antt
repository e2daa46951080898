-- What inputs keep where an edit is set.
use Rattle.rw_base.proofs.Common.{◌≡◌, ℕ, ◌<◌, Bool, true, false, if◌then◌else◌, [], length, Option, Some, None, Result, Ok, Err, IfSome, refl, sym}
use Rattle.rw_base.proofs.Common.{ap, subst, ◌∙◌, arith, ℤ, nat_tests, slice_index_or, slice_set, get_or_default, set-get_or}
use Rattle.std.specs.Prelude.{OnErr, OnOk}
use Rattle.std.proofs.lemmas.List.{length-set}
use Rattle.rw_model.specs.Draft.{Draft}
use Rattle.rw_model.specs.Links.{IsBetween, bounds_in}
use Rattle.rw_series.proofs.Bounds.{bounds-alike}
use Rattle.rw_inputs.specs.declared.edit.Edit.{Edit}
use Rattle.rw_inputs.specs.Edits.{IsEdit, after_edit, names}
use Rattle.rw_inputs.specs.Inputs.{Inputs, IsInputsOf, IsKeptValue, slot_column, kept_slot, value_at}
use Rattle.rw_inputs.specs.Column.{Column, IsColumn, IsSet, value_in_column}
use Rattle.rw_inputs.proofs.Columns.{set-column, set-more}
use Rattle.rw_inputs.proofs.Groups.{kept_slot-again, kept_slot-together}

-- what follows from what a call ensures on either end
pub either_way : {T E P Q R : Type 0} (result : Result T E) → OnOk result P → OnErr result Q → (P → R) → (Q → R) → R
either_way (Ok x) p q f g = f p
either_way (Err e) p q f g = g q

-- a value within a slot's bounds is one that is kept of it, at the least of the slots that carry one value with it
pub kept_change : (basin : Draft) (slot : ℕ) (value : Option ℤ) → IfSome value (IsBetween (bounds_in basin.objects basin.links basin.bounds slot))
    → IfSome value (IsKeptValue basin (kept_slot basin slot))
kept_change basin slot None within = within
kept_change basin slot (Some value) within = record {
  least = kept_slot-again basin slot;
  within = subst (λ bounds. IsBetween bounds value) (bounds-alike basin slot (kept_slot basin slot) (kept_slot-together basin slot)) within;
}

-- a value that an edit says is one that the slot can have
said : (basin : Draft) (slot : ℕ) (said : Option ℤ) (value : ℤ) → IfSome said (IsKeptValue basin slot) → said ≡ Some value
    → IsKeptValue basin slot value
said basin slot None value kept is = absurd (cc)
said basin slot (Some other) value kept is = let same : other ≡ value = cc in subst (IsKeptValue basin slot) same kept

sound_after : (basin : Draft) (edit : Edit) (old : Inputs) (slot step : ℕ) (value : ℤ) → IsInputsOf basin old → IsEdit basin edit
    → (here : Bool) → names edit slot step ≡ here → (if here then edit.value else value_at old slot step) ≡ Some value → IsKeptValue basin slot value
sound_after basin edit old slot step value made sound true here is =
    let at : slot ≡ edit.slot = grind (arith, nat_tests) in
    subst (λ s. IsKeptValue basin s value) (sym at) (said basin edit.slot edit.value value sound.kept is)
sound_after basin edit old slot step value made sound false here is = made.sound slot step value is

-- what is set in a column
pub record Setting (basin : Draft) (edit : Edit) (old new : Inputs) (before after : Column) : Type 0 where
  pub nothing : after ≡ before → new.columns ≡ old.columns
  pub made : IsSet edit.value edit.first edit.last before after → IsInputsOf basin new
  pub values : IsSet edit.value edit.first edit.last before after → value_at new ≡ after_edit edit (value_at old)

module _ (basin : Draft) (edit : Edit) (old new : Inputs) (slot steps : ℕ) (before after : Column) (made : IsInputsOf basin old)
    (sound : IsEdit basin edit)
    (at : slot ≡ edit.slot) (run : steps ≡ basin.control.stamps.count)
    (was : before ≡ slice_index_or old.columns slot before) (set : new.columns ≡ slice_set old.columns slot after)
    (whole : IsColumn steps after) where
  near : edit.slot < length old.columns
  near = omega (arith, sound.slot.last, made.slots)

  was_there : before ≡ slot_column old.columns slot
  was_there = was ∙ get_or_default old.columns slot before [] (omega (arith, at, near))

  was_kept : before ≡ slot_column old.columns edit.slot
  was_kept = was_there ∙ ap (slot_column old.columns) at

  now_kept : new.columns ≡ slice_set old.columns edit.slot after
  now_kept = set ∙ ap (λ s. slice_set old.columns s after) at

  value-set : IsSet edit.value edit.first edit.last before after → (slot step : ℕ)
      → value_at new slot step ≡ after_edit edit (value_at old) slot step
  value-set is slot step =
      ap (λ columns. value_in_column (slot_column columns slot) step) now_kept
      ∙ set-more old.columns edit.slot after near edit.first edit.last edit.value
      (subst (λ column. IsSet edit.value edit.first edit.last column after) was_kept is) slot step

  pub setting : Setting basin edit old new before after
  setting = record {
    nothing = λ same. set ∙ ap (slice_set old.columns slot) (same ∙ was_there) ∙ set-get_or old.columns slot [];
    made = λ is. record {
      slots = ap length now_kept ∙ length-set old.columns edit.slot after ∙ made.slots;
      steps = λ slot.
          subst (λ columns. IsColumn basin.control.stamps.count (slot_column columns slot)) (sym now_kept)
          (set-column old.columns edit.slot after near basin.control.stamps.count (subst (λ n. IsColumn n after) run whole) made.steps slot);
      sound = λ slot step value kept.
          sound_after basin edit old slot step value made sound (names edit slot step) refl (sym (value-set is slot step) ∙ kept);
    };
    values = λ is i slot step. value-set is slot step i;
  }

-- Columns of values, one of which is set.
use Rattle.rw_base.proofs.Common.{◌≡◌, ◌≢◌, ℕ, ◌<◌, ◌==◌, ◌&&◌, Bool, true, false, if◌then◌else◌, List, [], length, Option, refl, ap, subst, sym, ◌∙◌}
use Rattle.rw_base.proofs.Common.{arith, ℤ, nat_le, slice_set, nat_tests, get_or-set_same, get_or-set_other}
use Rattle.rw_inputs.specs.Inputs.{slot_column}
use Rattle.rw_inputs.specs.Column.{Column, IsColumn, IsSet, value_in_column}

module _ (columns : List Column) (slot : ℕ) (column : Column) (near : slot < length columns) where
  set_here : (other : ℕ) → (other == slot) ≡ true → slot_column (slice_set columns slot column) other ≡ column
  set_here other same =
      let at : other ≡ slot = grind (arith, nat_tests) in
      ap (slot_column (slice_set columns slot column)) at ∙ get_or-set_same columns slot column [] near

  set_there : (other : ℕ) → (other == slot) ≡ false → slot_column (slice_set columns slot column) other ≡ slot_column columns other
  set_there other apart =
      let away : other ≢ slot = λ at. absurd (grind (arith, nat_tests)) in
      get_or-set_other columns slot other column [] away

  value_set : (first last : ℕ) (value : Option ℤ) → IsSet value first last (slot_column columns slot) column → (other step : ℕ)
      → (same : Bool) → (other == slot) ≡ same
      → value_in_column (slot_column (slice_set columns slot column) other) step
      ≡ (if same && (nat_le first step && nat_le step last) then value else value_in_column (slot_column columns other) step)
  value_set first last value more other step true same =
      let at : other ≡ slot = grind (arith, nat_tests) in
      ap (λ column. value_in_column column step) (set_here other same)
      ∙ more step
      ∙ ap (λ s. if nat_le first step && nat_le step last then value else value_in_column (slot_column columns s) step) (sym at)
  value_set first last value more other step false apart = ap (λ column. value_in_column column step) (set_there other apart)

  -- the other columns stay
  pub set-more : (first last : ℕ) (value : Option ℤ) → IsSet value first last (slot_column columns slot) column → (other step : ℕ)
      → value_in_column (slot_column (slice_set columns slot column) other) step
      ≡ (if other == slot && (nat_le first step && nat_le step last) then value else value_in_column (slot_column columns other) step)
  set-more first last value more other step = value_set first last value more other step (other == slot) refl

  column_set : (steps : ℕ) → IsColumn steps column → ((other : ℕ) → IsColumn steps (slot_column columns other)) → (other : ℕ)
      → (same : Bool) → (other == slot) ≡ same → IsColumn steps (slot_column (slice_set columns slot column) other)
  column_set steps whole each other true same = subst (IsColumn steps) (sym (set_here other same)) whole
  column_set steps whole each other false apart = subst (IsColumn steps) (sym (set_there other apart)) (each other)

  pub set-column : (steps : ℕ) → IsColumn steps column → ((other : ℕ) → IsColumn steps (slot_column columns other)) → (other : ℕ)
      → IsColumn steps (slot_column (slice_set columns slot column) other)
  set-column steps whole each other = column_set steps whole each other (other == slot) refl

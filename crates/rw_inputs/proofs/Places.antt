-- Columns, some timesteps of which are set.
use Rattle.rw_base.proofs.Common.{◌≡◌, ◌≢◌, ℕ, ◌+◌, ◌==◌, ◌<◌, ◌≤◌, ◌&&◌, Bool, true, false, if◌then◌else◌, [], length, Option, None, refl, sym, ap, ◌∙◌}
use Rattle.rw_base.proofs.Common.{arith, ℤ, nat_le, slice_set, nat_tests, get_or-set_same, get_or-set_other}
use Rattle.rw_inputs.specs.Column.{Column, IsSet, value_in_column}

-- a value, or none, is kept at one more timestep
pub more-set : (column old : Column) (first before : ℕ) (value : Option ℤ) → first ≤ before + 1 → before + 1 < length column
    → IsSet value first before old column → IsSet value first (before + 1) old (slice_set column (before + 1) value)
more-set column old first before value from near more step = at_step (step == before + 1) refl
  where
    at_step : (here : Bool) → (step == before + 1) ≡ here
        → value_in_column (slice_set column (before + 1) value) step
        ≡ (if nat_le first step && nat_le step (before + 1) then value else value_in_column old step)
    at_step true here =
        let at : step ≡ before + 1 = grind (arith, nat_tests) in
        let within : (nat_le first step && nat_le step (before + 1)) ≡ true = grind (arith, nat_tests) in
        rw within (ap (value_in_column (slice_set column (before + 1) value)) at ∙ get_or-set_same column (before + 1) value None near)
    at_step false there =
        let apart : step ≢ before + 1 = λ at. absurd (grind (arith, nat_tests)) in
        let tests : nat_le step (before + 1) ≡ nat_le step before = grind (arith, nat_tests) in
        get_or-set_other column (before + 1) step value None apart
        ∙ more step
        ∙ ap (λ last. if nat_le first step && last then value else value_in_column old step) (sym tests)

-- where there are no places yet, nothing has to be taken away
pub cleared : (first last : ℕ) (column : Column) → column ≡ [] → IsSet None first last column column
cleared first last column none step = by (nat_le first step && nat_le step last)
  where
    by : (within : Bool) → value_in_column column step ≡ (if within then None else value_in_column column step)
    by true = ap (λ column. value_in_column column step) none
    by false = refl

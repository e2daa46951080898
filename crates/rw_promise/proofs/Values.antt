-- What rows of one slot and of one timestep each give: no two meet, and a cell holds what its own row gives.
use Rattle.rw_base.proofs.Common.{arith, ap, cases_eq, cases_lt, false, if◌then◌else◌, inl, inr, List, [], list_any, max, min}
use Rattle.rw_base.proofs.Common.{nat_le, nat_tests, None, option_or, Option, pos, refl, Result, Some, suc}
use Rattle.rw_base.proofs.Common.{sym, true, zero, ℕ, ℤ, Bool, ◌<◌, ◌≤◌, ◌++◌, ◌∷◌}
use Rattle.rw_base.proofs.Common.{◌≡◌, ◌==◌, ◌∙◌, ◌&&◌, ◌⊎◌}
use Rattle.std.proofs.lemmas.Bool.{and_right, or_from, or_parts}
use Rattle.rw_model.specs.Draft.{Draft}
use Rattle.rw_inputs.specs.Inputs.{kept_slot, row_gives, row_value_at}
use Rattle.rw_inputs.specs.Reading.{good, shares_cell}
use Rattle.rw_promise.specs.Inflows.{inflow_at}
use Rattle.rw_promise.proofs.TextRows.{inflow}

-- what a row gives, and what is wrong with one: their types are not exported
abbrev pub given_by : {A E B : Type 0} → (Result A E → List B) → Type 0
given_by {A} {E} {B} f = B

abbrev pub wrong_in : {A E B : Type 0} → (Result A E → List B) → Type 0
wrong_in {A} {E} {B} f = E

abbrev pub RowValue : Type 0
RowValue = given_by good

abbrev pub Wrong : Type 0
Wrong = wrong_in good

abbrev pub row_value : (slot seed step : ℕ) → RowValue
row_value slot seed step = record { slot = slot; first = step; last = step; value = pos (inflow seed step) }

-- what the first rows give, so many of them
unfoldable pub values_in : (slot seed count : ℕ) → List RowValue
values_in slot seed zero = []
values_in slot seed (suc before) = values_in slot seed before ++ row_value slot seed (suc before) ∷ []

-- ---- no two meet

any_more : (test : RowValue → Bool) (values : List RowValue) (value : RowValue) → list_any test values ≡ false → test value ≡ false
    → list_any test (values ++ value ∷ []) ≡ false
any_more test [] value none is = rw is refl
any_more test (first ∷ values) value none is =
    let parts = or_parts (test first) (list_any test values) none in
    or_from (test first) _ parts.0 (any_more test values value parts.1 is)

apart : (step other : ℕ) → other < step → nat_le (max step other) (min step other) ≡ false
apart step other less = grind (arith, nat_tests)

pub none_shared : (basin : Draft) (slot seed count step : ℕ) → count < step
    → list_any (shares_cell basin (row_value slot seed step)) (values_in slot seed count) ≡ false
unfolding values_in
none_shared basin slot seed zero step less = refl
none_shared basin slot seed (suc before) step less =
    any_more (shares_cell basin (row_value slot seed step)) (values_in slot seed before) (row_value slot seed (suc before))
    (none_shared basin slot seed before step (omega (arith, less)))
    (and_right (kept_slot basin slot == kept_slot basin slot) _ (apart step (suc before) less))

-- ---- what a cell holds

module _ (basin : Draft) (cell step : ℕ) where
  at_more : (values : List RowValue) (value : RowValue) → row_value_at basin (values ++ value ∷ []) cell step
      ≡ option_or (row_value_at basin values cell step) (if row_gives basin value cell step then Some value.value else None)
  at_more [] value = refl
  at_more (first ∷ values) value = by (row_gives basin first cell step) (at_more values value)
    where
      by : (gives : Bool) → row_value_at basin (values ++ value ∷ []) cell step
          ≡ option_or (row_value_at basin values cell step) (if row_gives basin value cell step then Some value.value else None)
          → (if gives then Some first.value else row_value_at basin (values ++ value ∷ []) cell step)
          ≡ option_or (if gives then Some first.value else row_value_at basin values cell step)
          (if row_gives basin value cell step then Some value.value else None)
      by true behind = refl
      by false behind = behind

none_or : (A : Type 0) (held : Option A) → option_or held None ≡ held
none_or A None = refl
none_or A (Some x) = refl

module _ (seed step : ℕ) where
  -- one timestep more
  held_more : (same : Bool) (before : ℕ)
      → option_or (if same && (nat_le 1 step && nat_le step before) then Some (pos (inflow seed step)) else None)
      (if same && (nat_le (suc before) step && nat_le step (suc before)) then Some (pos (inflow seed (suc before))) else None)
      ≡ (if same && (nat_le 1 step && nat_le step (suc before)) then Some (pos (inflow seed step)) else None)
  held_more false before = refl
  held_more true before = elim (cases_eq step (suc before)) [
    | inl is ↦
        let first : nat_le 1 (suc before) ≡ true = grind (arith, nat_tests) in
        let behind : nat_le (suc before) before ≡ false = grind (arith, nat_tests) in
        let here : nat_le (suc before) (suc before) ≡ true = grind (arith, nat_tests) in
        rw (is, first, behind, here) refl
    | inr other ↦
        let elsewhere : (nat_le (suc before) step && nat_le step (suc before)) ≡ false = elim (cases_lt step (suc before)) [
          | inl less ↦ let low : nat_le (suc before) step ≡ false = grind (arith, nat_tests, less) in rw low refl
          | inr most ↦
              let high : nat_le step (suc before) ≡ false = grind (arith, nat_tests, most, other) in
              and_right (nat_le (suc before) step) _ high
        ] in
        let as_before : nat_le step (suc before) ≡ nat_le step before = elim (cases_lt step (suc before)) [
          | inl less ↦
              let far : nat_le step (suc before) ≡ true = grind (arith, nat_tests, less) in
              let near : nat_le step before ≡ true = grind (arith, nat_tests, less) in
              far ∙ sym near
          | inr most ↦
              let far : nat_le step (suc before) ≡ false = grind (arith, nat_tests, most, other) in
              let near : nat_le step before ≡ false = grind (arith, nat_tests, most) in
              far ∙ sym near
        ] in
        rw (elsewhere, as_before) (none_or ℤ (if nat_le 1 step && nat_le step before then Some (pos (inflow seed step)) else None))
  ]

pub held : (basin : Draft) (slot seed count cell step : ℕ)
    → row_value_at basin (values_in slot seed count) cell step ≡ inflow_at (kept_slot basin slot) seed count cell step
unfolding values_in
held basin slot seed zero cell step = by (cell == kept_slot basin slot) (cases_lt step 1)
  where
    by : (same : Bool) → ((step < 1) ⊎ (1 ≤ step)) → None ≡ (if same && (nat_le 1 step && nat_le step 0) then Some (pos (inflow seed step)) else None)
    by false order = refl
    by true (inl less) = let low : nat_le 1 step ≡ false = grind (arith, nat_tests, less) in rw low refl
    by true (inr some) = let high : nat_le step 0 ≡ false = grind (arith, nat_tests, some) in rw (and_right (nat_le 1 step) _ high) refl
held basin slot seed (suc before) cell step =
    at_more basin cell step (values_in slot seed before) (row_value slot seed (suc before))
    ∙ ap (λ found. option_or found (if cell == kept_slot basin slot && (nat_le (suc before) step && nat_le step (suc before))
    then Some (pos (inflow seed (suc before))) else None)) (held basin slot seed before cell step)
    ∙ held_more seed step (cell == kept_slot basin slot) before

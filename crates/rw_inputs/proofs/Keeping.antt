-- What is kept where a row gives values to cells that none has.
use Rattle.rw_base.proofs.Common.{◌≡◌, ◌≢◌, ℕ, ◌≤◌, ◌<◌, Bool, true, false, if◌then◌else◌, List, [], ◌∷◌, ◌++◌, length, Option, Some, None, refl, sym}
use Rattle.rw_base.proofs.Common.{ap, subst, ◌∙◌, arith, ℤ, max, min, slice_index_or, slice_set, list_any, nat_tests, get_or_default}
use Rattle.rw_base.proofs.Common.{set-get_or}
use Rattle.rw_base.proofs.Lists.{or_second}
use Rattle.std.proofs.lemmas.List.{length-set}
use Rattle.rw_model.proofs.Common.{Draft, IsSlot, IsBetween}
use Rattle.rw_series.proofs.Bounds.{bounds-alike}
use Rattle.rw_inputs.specs.declared.row_value.RowValue.{RowValue}
use Rattle.rw_inputs.specs.Inputs.{Inputs, IsInputsOf, IsKeptValue, Keeps, slot_column, row_value_at, row_gives, kept_slot, value_at}
use Rattle.rw_inputs.specs.Column.{Column, HasMore, IsColumn, IsFree, IsTakenWithin, value_in_column}
use Rattle.rw_inputs.specs.Reading.{shares_cell}
use Rattle.rw_inputs.specs.Sound.{IsRowValue}
use Rattle.rw_inputs.specs.Taking.{IsTwice, TakesRowValue}
use Rattle.rw_inputs.proofs.Columns.{set-column, set-more}
use Rattle.rw_inputs.proofs.Groups.{kept_slot-together, kept_slot-again}

-- ---- what rows give

module _ (basin : Draft) (row_value : RowValue) (slot step : ℕ) where
  -- the next row comes behind one that doesn't give the cell a value
  append-behind : (row : RowValue) (rows : List RowValue)
      → (row_gives basin row_value slot step ≡ true → row_value_at basin (row ∷ rows) slot step ≡ None)
      → ((row_gives basin row_value slot step ≡ true → row_value_at basin rows slot step ≡ None)
      → row_value_at basin (rows ++ row_value ∷ []) slot step
      ≡ (if row_gives basin row_value slot step then Some row_value.value else row_value_at basin rows slot step))
      → (here : Bool) → row_gives basin row slot step ≡ here → (new : Bool) → row_gives basin row_value slot step ≡ new
      → (if here then Some row.value else row_value_at basin (rows ++ row_value ∷ []) slot step)
      ≡ (if new then Some row_value.value else (if here then Some row.value else row_value_at basin rows slot step))
  append-behind row rows free more true here true new = let none = rw here at (free new) in absurd (cc)
  append-behind row rows free more true here false new = refl
  append-behind row rows free more false here new is =
      subst (λ test. row_value_at basin (rows ++ row_value ∷ []) slot step
      ≡ (if test then Some row_value.value else row_value_at basin rows slot step)) is
      (more (λ passes. rw here at (free passes)))

  row_value_at-append : (rows : List RowValue) → (row_gives basin row_value slot step ≡ true → row_value_at basin rows slot step ≡ None)
      → row_value_at basin (rows ++ row_value ∷ []) slot step
      ≡ (if row_gives basin row_value slot step then Some row_value.value else row_value_at basin rows slot step)
  row_value_at-append [] free = refl
  row_value_at-append (row ∷ rows) free =
      append-behind row rows free (row_value_at-append rows) (row_gives basin row slot step) refl (row_gives basin row_value slot step) refl

-- ---- where rows share a cell

not_here : {A : Type 0} (here : Bool) (x : A) (later : Option A) → (if here then Some x else later) ≡ None → later ≡ None
not_here true x later none = absurd (cc)
not_here false x later none = none

module _ (basin : Draft) (row_value : RowValue) where
  gives-parts : (row : RowValue) (slot step : ℕ) → row_gives basin row slot step ≡ true
      → (slot ≡ kept_slot basin row.slot) × (row.first ≤ step) × (step ≤ row.last)
  gives-parts row slot step passes = (grind (arith, nat_tests), grind (arith, nat_tests), grind (arith, nat_tests))

  gives-from : (row : RowValue) (slot step : ℕ) → slot ≡ kept_slot basin row.slot → row.first ≤ step → step ≤ row.last
      → row_gives basin row slot step ≡ true
  gives-from row slot step at from to = grind (arith, nat_tests)

  shares-from : (row : RowValue) (step : ℕ) → row_gives basin row (kept_slot basin row_value.slot) step ≡ true → row_value.first ≤ step
      → step ≤ row_value.last
      → shares_cell basin row_value row ≡ true
  shares-from row step passes from to = let parts = gives-parts row (kept_slot basin row_value.slot) step passes in grind (arith, nat_tests)

  taken_at : (row : RowValue) (rows : List RowValue) (step : ℕ) → row_value.first ≤ step → step ≤ row_value.last
      → (row_value_at basin rows (kept_slot basin row_value.slot) step ≢ None → list_any (shares_cell basin row_value) rows ≡ true)
      → (here : Bool) → row_gives basin row (kept_slot basin row_value.slot) step ≡ here
      → (if here then Some row.value else row_value_at basin rows (kept_slot basin row_value.slot) step) ≢ None
      → list_any (shares_cell basin row_value) (row ∷ rows) ≡ true
  taken_at row rows step from to more true here taken = rw (shares-from row step here from to) refl
  taken_at row rows step from to more false here taken =
      or_second (shares_cell basin row_value row) (list_any (shares_cell basin row_value) rows) (more taken)

  taken_shares : (rows : List RowValue) (step : ℕ) → row_value.first ≤ step → step ≤ row_value.last
      → row_value_at basin rows (kept_slot basin row_value.slot) step ≢ None → list_any (shares_cell basin row_value) rows ≡ true
  taken_shares [] step from to taken = absurd (taken refl)
  taken_shares (row ∷ rows) step from to taken =
      taken_at row rows step from to (taken_shares rows step from to) (row_gives basin row (kept_slot basin row_value.slot) step) refl taken

  -- the timestep that both have
  shared_step : (row : RowValue) → shares_cell basin row_value row ≡ true
      → (step : ℕ) × (row_value.first ≤ step) × (step ≤ row_value.last) × (row_gives basin row (kept_slot basin row_value.slot) step ≡ true)
  shared_step row shares =
      let same : kept_slot basin row_value.slot ≡ kept_slot basin row.slot = grind (arith, nat_tests) in
      let between : max row_value.first row.first ≤ min row_value.last row.last = grind (arith, nat_tests) in (
        max row_value.first row.first,
        omega arith,
        omega arith,
        gives-from row (kept_slot basin row_value.slot) (max row_value.first row.first) same (omega arith) (omega arith),
      )

  free_at : (row : RowValue) (rows : List RowValue)
      → ((step : ℕ) → row_value.first ≤ step → step ≤ row_value.last → row_value_at basin (row ∷ rows) (kept_slot basin row_value.slot) step ≡ None)
      → (((step : ℕ) → row_value.first ≤ step → step ≤ row_value.last → row_value_at basin rows (kept_slot basin row_value.slot) step ≡ None)
      → list_any (shares_cell basin row_value) rows ≡ false)
      → (test : Bool) → shares_cell basin row_value row ≡ test → list_any (shares_cell basin row_value) (row ∷ rows) ≡ false
  free_at row rows free more true shares =
      let at = shared_step row shares in
      let none = rw at.3 at (free at.0 at.1 at.2) in
      absurd (cc)
  free_at row rows free more false shares =
      rw shares (more (λ step from to. not_here (row_gives basin row (kept_slot basin row_value.slot) step) row.value
      (row_value_at basin rows (kept_slot basin row_value.slot) step) (free step from to)))

  free_shares : (rows : List RowValue)
      → ((step : ℕ) → row_value.first ≤ step → step ≤ row_value.last → row_value_at basin rows (kept_slot basin row_value.slot) step ≡ None)
      → list_any (shares_cell basin row_value) rows ≡ false
  free_shares [] free = refl
  free_shares (row ∷ rows) free = free_at row rows free (free_shares rows) (shares_cell basin row_value row) refl

-- ---- what is kept

-- where a row gives a value to a slot, the slot can have it
kept_at-sound : (basin : Draft) (row_value : RowValue) (old : Inputs) (slot step : ℕ) (value : ℤ) → IsInputsOf basin old → IsRowValue basin row_value
    → (here : Bool) → row_gives basin row_value slot step ≡ here → (if here then Some row_value.value else value_at old slot step) ≡ Some value
    → IsKeptValue basin slot value
kept_at-sound basin row_value old slot step value made sound true here is =
    let parts = gives-parts basin row_value row_value slot step here in
    let same : row_value.value ≡ value = cc in
    let kept : IsKeptValue basin (kept_slot basin row_value.slot) row_value.value = record {
      least = kept_slot-again basin row_value.slot;
      within =
          subst (λ bounds. IsBetween bounds row_value.value)
          (bounds-alike basin row_value.slot (kept_slot basin row_value.slot) (kept_slot-together basin row_value.slot)) sound.within;
    } in
    subst (IsKeptValue basin slot) same (subst (λ s. IsKeptValue basin s row_value.value) (sym parts.0) kept)
kept_at-sound basin row_value old slot step value made sound false here is = made.sound slot step value is

-- a row's values are put in the column at which they are kept
module _ (basin : Draft) (row_value : RowValue) (old new : Inputs) (column : Column) (made : IsInputsOf basin old)
    (sound : IsRowValue basin row_value)
    (near : kept_slot basin row_value.slot < length old.columns) (set : new.columns ≡ slice_set old.columns (kept_slot basin row_value.slot) column)
    (more : HasMore row_value.value row_value.first row_value.last (slot_column old.columns (kept_slot basin row_value.slot)) column) where
  value-more : (slot step : ℕ) → value_at new slot step
      ≡ (if row_gives basin row_value slot step then Some row_value.value else value_at old slot step)
  value-more slot step =
      ap (λ columns. value_in_column (slot_column columns slot) step) set
      ∙ set-more old.columns (kept_slot basin row_value.slot) column near row_value.first row_value.last (Some row_value.value) more slot step

  made-more : IsColumn basin.control.stamps.count column → IsInputsOf basin new
  made-more whole = record {
    slots = ap length set ∙ length-set old.columns (kept_slot basin row_value.slot) column ∙ made.slots;
    steps = λ slot.
        subst (λ columns. IsColumn basin.control.stamps.count (slot_column columns slot)) (sym set)
        (set-column old.columns (kept_slot basin row_value.slot) column near basin.control.stamps.count whole made.steps slot);
    sound = λ slot step value is.
        kept_at-sound basin row_value old slot step value made sound (row_gives basin row_value slot step) refl (sym (value-more slot step) ∙ is);
  }

  -- nothing was kept there yet
  Keeps-more : (rows : List RowValue) → IsColumn basin.control.stamps.count column → Keeps basin rows old
      → IsFree (slot_column old.columns (kept_slot basin row_value.slot)) row_value.first row_value.last
      → (list_any (shares_cell basin row_value) rows ≡ false) × Keeps basin (rows ++ row_value ∷ []) new
  Keeps-more rows whole kept free =
      let unkept : ((step : ℕ) → row_value.first ≤ step → step ≤ row_value.last
      → row_value_at basin rows (kept_slot basin row_value.slot) step ≡ None) =
      λ step from to. sym (kept.values (kept_slot basin row_value.slot) step) ∙ free step from to in
      let none : ((slot step : ℕ) → row_gives basin row_value slot step ≡ true → row_value_at basin rows slot step ≡ None) =
      λ slot step passes.
      let parts = gives-parts basin row_value row_value slot step passes in
      ap (λ s. row_value_at basin rows s step) parts.0 ∙ unkept step parts.1 parts.2 in (
        free_shares basin row_value rows unkept,
        record {
          made = made-more whole;
          values = λ slot step.
              value-more slot step
              ∙ ap (λ value. if row_gives basin row_value slot step then Some row_value.value else value) (kept.values slot step)
              ∙ sym (row_value_at-append basin row_value slot step rows (none slot step));
        },
      )

-- a cell of a row that has a value already
taken-shares : (basin : Draft) (row_value : RowValue) (rows : List RowValue) (old : Inputs) → Keeps basin rows old
    → IsTakenWithin (slot_column old.columns (kept_slot basin row_value.slot)) row_value.first row_value.last
    → list_any (shares_cell basin row_value) rows ≡ true
taken-shares basin row_value rows old kept taken =
    taken_shares basin row_value rows taken.step taken.from taken.to
    (λ none. taken.taken (kept.values (kept_slot basin row_value.slot) taken.step ∙ none))

-- what is taken into the column at which a row's values are kept
pub record Taking (basin : Draft) (row_value : RowValue) (old new : Inputs) (before after : Column) : Type 0 where
  pub nothing : after ≡ before → new.columns ≡ old.columns
  pub made : HasMore row_value.value row_value.first row_value.last before after → IsInputsOf basin new
  pub takes : IsFree before row_value.first row_value.last → HasMore row_value.value row_value.first row_value.last before after
      → TakesRowValue basin row_value old new
  pub twice : IsTakenWithin before row_value.first row_value.last → IsTwice basin row_value old

module _ (basin : Draft) (row_value : RowValue) (old new : Inputs) (slot steps : ℕ) (before after : Column) (made : IsInputsOf basin old)
    (sound : IsRowValue basin row_value)
    (at : slot ≡ kept_slot basin row_value.slot) (known : IsSlot basin.objects slot) (run : steps ≡ basin.control.stamps.count)
    (was : before ≡ slice_index_or old.columns slot before) (set : new.columns ≡ slice_set old.columns slot after)
    (whole : IsColumn steps after) where
  near : kept_slot basin row_value.slot < length old.columns
  near = omega (arith, at, known.last, made.slots)

  was_there : before ≡ slot_column old.columns slot
  was_there = was ∙ get_or_default old.columns slot before [] (omega (arith, at, near))

  was_kept : before ≡ slot_column old.columns (kept_slot basin row_value.slot)
  was_kept = was_there ∙ ap (slot_column old.columns) at

  now_kept : new.columns ≡ slice_set old.columns (kept_slot basin row_value.slot) after
  now_kept = set ∙ ap (λ s. slice_set old.columns s after) at

  whole_run : IsColumn basin.control.stamps.count after
  whole_run = subst (λ n. IsColumn n after) run whole

  more_kept : HasMore row_value.value row_value.first row_value.last before after
      → HasMore row_value.value row_value.first row_value.last (slot_column old.columns (kept_slot basin row_value.slot)) after
  more_kept more = subst (λ column. HasMore row_value.value row_value.first row_value.last column after) was_kept more

  pub taking : Taking basin row_value old new before after
  taking = record {
    nothing = λ same. set ∙ ap (slice_set old.columns slot) (same ∙ was_there) ∙ set-get_or old.columns slot [];
    made = λ more. made-more basin row_value old new after made sound near now_kept (more_kept more) whole_run;
    takes = λ free more rows kept.
        Keeps-more basin row_value old new after made sound near now_kept (more_kept more) rows whole_run kept
        (subst (λ column. IsFree column row_value.first row_value.last) was_kept free);
    twice =
        λ taken rows kept. taken-shares basin row_value rows old kept
        (subst (λ column. IsTakenWithin column row_value.first row_value.last) was_kept taken);
  }

-- The sample's inputs are accepted: each row reads, and none gives a value to a cell of one before it.
use Rattle.rw_base.proofs.Common.{arith, ap, ap₂, append-nil, append_assoc, Bool, codes, decimal, if◌then◌else◌, List, [], list_any, nat_le}
use Rattle.rw_base.proofs.Common.{nat_tests, None, Ok, Option, pos, refl, Result, Some, suc, sym}
use Rattle.rw_base.proofs.Common.{true, zero, ℕ, ℤ, ◌+◌, ◌<◌, ◌≤◌, ◌++◌, ◌∷◌, ◌≡◌, ◌∙◌}
use Rattle.rw_base.proofs.Common.{◌≤ℤ◌, ints}
use Rattle.rw_base.proofs.Tests.{Decides-int_le}
use Rattle.rw_base.specs.Answers.{unless_refused}
use Rattle.rw_model.specs.Draft.{Draft}
use Rattle.rw_model.specs.Links.{bounds_in}
use Rattle.rw_model.specs.Slot.{Bounds}
use Rattle.rw_inputs.specs.Inputs.{kept_slot}
use Rattle.rw_inputs.specs.Reading.{first_refusal, good, inputs_of, read_records, refused_or, row_values}
use Rattle.rw_inputs.specs.Reading.{shares_cell, values_read, wrong_behind}
use Rattle.rw_inputs.specs.Records.{Fields}
use Rattle.rw_inputs.specs.Refusal.{InputRefusal}
use Rattle.rw_inputs.specs.Row.{◌>>=◌, can_be_set, read_row, read_slot, read_span, read_value, set_slot, within_bounds, within_run}
use Rattle.rw_sample.specs.Texts.{sample_inputs}
use Rattle.rw_promise.specs.Inflows.{TakesInflows, inflow_at}
use Rattle.rw_promise.proofs.Decimals.{signed_back, span_back}
use Rattle.rw_promise.proofs.TextRows.{fields_in, inflow, inflow_small, records_read, row_fields}
use Rattle.rw_promise.proofs.Values.{RowValue, Wrong, held, none_shared, row_value, values_in}

-- ---- rows one after another

values_more : (basin : Draft) (before : List Fields) (row : Fields) (value : RowValue) → read_row basin row ≡ Ok value
    → row_values basin (before ++ row ∷ []) ≡ row_values basin before ++ value ∷ []
values_more basin [] row value reads = rw reads refl
values_more basin (first ∷ before) row value reads =
    ap (λ rows. good (read_row basin first) ++ rows) (values_more basin before row value reads)
    ∙ sym (append_assoc (good (read_row basin first)) (row_values basin before) (value ∷ []))

unrefused : (number : ℕ) (found : Option Wrong) (later : Option InputRefusal) → refused_or number found later ≡ None
    → (found ≡ None) × (later ≡ None)
unrefused number None later none = (refl, none)
unrefused number (Some fault) later none = absurd (cc)

refusal_more : (basin : Draft) (number : ℕ) (before rows : List Fields) (row : Fields) → first_refusal basin number before rows ≡ None
    → wrong_behind basin (before ++ rows) (read_row basin row) ≡ None → first_refusal basin number before (rows ++ row ∷ []) ≡ None
refusal_more basin number before [] row none right =
    let here : wrong_behind basin before (read_row basin row) ≡ None =
    ap (λ rows. wrong_behind basin rows (read_row basin row)) (sym (append-nil before)) ∙ right in
    ap (λ found. refused_or number found None) here
refusal_more basin number before (first ∷ rows) row none right =
    let parts = unrefused number (wrong_behind basin before (read_row basin first))
    (first_refusal basin (number + 1) (before ++ first ∷ []) rows) none in
    let behind = ap (λ rows. wrong_behind basin rows (read_row basin row)) (append_assoc before (first ∷ []) rows) ∙ right in
    ap₂ (λ found later. refused_or number found later) parts.0 (refusal_more basin (number + 1) (before ++ first ∷ []) rows row parts.1 behind)

-- ---- each row of the sample

abbrev read_by : {A E B : Type 0} → (B → Result A E) → Type 0
read_by {A} {E} {B} f = A

module _ (basin : Draft) where
  abbrev Span : Type 0
  Span = read_by (within_run basin)

  abbrev made : ℕ → Span → ℤ → Result RowValue Wrong
  made slot span value = Ok (record { slot = slot; first = span.first; last = span.last; value = value })

passed : {A : Type 0} (test : Bool) (x y : A) → test ≡ true → (if test then x else y) ≡ x
passed test x y is = ap (λ (t : Bool). if t then x else y) is

within : (bounds : Bounds) (value : ℕ) → value < 1000 → bounds.0 ≤ℤ pos 0 → pos 999 ≤ℤ bounds.1
    → within_bounds bounds (Some (pos value)) ≡ Ok (pos value)
within bounds value small least most =
    let low = (Decides-int_le bounds.0 (pos value)).1 (omega (arith, ints, least)) in
    let high = (Decides-int_le (pos value) bounds.1).1 (omega (arith, ints, most, small)) in
    rw (low, high) refl

module _ (basin : Draft) (slot seed : ℕ) (takes : TakesInflows basin slot) where
  row_reads : (step : ℕ) → 1 ≤ step → step ≤ 365 → read_row basin (row_fields seed step) ≡ Ok (row_value slot seed step)
  row_reads step first last =
      ap (λ (read : Result ℕ Wrong). read >>= λ slot. read_span basin (decimal step) >>= λ span.
      read_value basin slot (decimal (inflow seed step)) >>= λ value. made basin slot span value) slot_reads
      ∙ ap (λ (read : Result (Span basin) Wrong). read >>= λ span.
      read_value basin slot (decimal (inflow seed step)) >>= λ value. made basin slot span value) span_reads
      ∙ ap (λ (read : Result ℤ Wrong). read >>= λ value. made basin slot (record { first = step; last = step }) value) value_reads
    where
      slot_reads : read_slot basin (codes "D1.Inflow") ≡ Ok slot
      slot_reads = ap (set_slot basin) takes.named ∙ passed (can_be_set basin slot) (Ok slot) _ takes.settable

      span_reads : read_span basin (decimal step) ≡ Ok (record { first = step; last = step })
      span_reads =
          let low : nat_le 1 step ≡ true = grind (arith, nat_tests, first) in
          let same : nat_le step step ≡ true = grind (arith, nat_tests) in
          let high : nat_le step basin.control.stamps.count ≡ true = grind (arith, nat_tests, last, takes.steps) in
          ap (within_run basin) (span_back step (omega (arith, last))) ∙ rw (low, same, high) refl

      value_reads : read_value basin slot (decimal (inflow seed step)) ≡ Ok (pos (inflow seed step))
      value_reads =
          let bounds = bounds_in basin.objects basin.links basin.bounds slot in
          ap (within_bounds bounds) (signed_back (inflow seed step) (inflow_small seed step))
          ∙ within bounds (inflow seed step) (inflow_small seed step) takes.least.low takes.most.high

  values_read_back : (count : ℕ) → count ≤ 365 → row_values basin (fields_in seed count) ≡ values_in slot seed count
  unfolding fields_in values_in
  values_read_back zero few = refl
  values_read_back (suc before) few =
      values_more basin (fields_in seed before) (row_fields seed (suc before)) (row_value slot seed (suc before))
      (row_reads (suc before) (omega arith) few)
      ∙ ap (λ values. values ++ row_value slot seed (suc before) ∷ []) (values_read_back before (omega (arith, few)))

  none_refused : (count : ℕ) → count ≤ 365 → first_refusal basin 2 [] (fields_in seed count) ≡ None
  unfolding fields_in
  none_refused zero few = refl
  none_refused (suc before) few =
      let reads = row_reads (suc before) (omega arith) few in
      let values = values_read_back before (omega (arith, few)) in
      let alone = ap (list_any (shares_cell basin (row_value slot seed (suc before)))) values
      ∙ none_shared basin slot seed before (suc before) (omega arith) in
      refusal_more basin 2 [] (fields_in seed before) (row_fields seed (suc before)) (none_refused before (omega (arith, few)))
      (ap (wrong_behind basin (fields_in seed before)) reads ∙ rw alone refl)

pub inputs_accepted : (basin : Draft) (slot seed : ℕ) → TakesInflows basin slot
    → inputs_of basin (sample_inputs seed) ≡ Ok (inflow_at (kept_slot basin slot) seed 365)
inputs_accepted basin slot seed takes =
    ap (λ records. values_read basin (read_records basin records)) (records_read seed)
    ∙ ap₂ (λ refusal values. values_read basin (unless_refused refusal values)) (none_refused basin slot seed takes 365 (omega arith))
    (values_read_back basin slot seed takes 365 (omega arith))
    ∙ ap Ok (λ i cell step. (held basin slot seed 365 cell step) i)

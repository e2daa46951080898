-- Values after edits, and rows one after another.
use Rattle.rw_base.proofs.Common.{◌≡◌, ℕ, ◌+◌, true, false, List, [], ◌∷◌, ◌++◌, length, Result, Ok, Err, refl, ap, ap₂, ◌∙◌, arith}
use Rattle.rw_base.proofs.Common.{list_any}
use Rattle.std.proofs.lemmas.Bool.{or_parts}
use Rattle.rw_inputs.specs.declared.edit.Edit.{Edit}
use Rattle.rw_model.specs.Draft.{Draft}
use Rattle.rw_inputs.specs.declared.wrong.Wrong.{Wrong}
use Rattle.rw_inputs.specs.EditRows.{at_row, batches_with, four_fields, more_batches}
use Rattle.rw_inputs.specs.Records.{Fields}
use Rattle.rw_inputs.specs.Refusal.{InputRefusal}
use Rattle.rw_inputs.specs.Edits.{Batch, Values, after_batch, after_batches, after_edit, names}

pub last_counts : (batch : Batch) (edit : Edit) (values : Values) (slot step : ℕ) → names edit slot step ≡ true
    → after_batch (batch ++ edit ∷ []) values slot step ≡ edit.value
last_counts [] edit values slot step named = rw named refl
last_counts (first ∷ batch) edit values slot step named = last_counts batch edit (after_edit first values) slot step named

pub unnamed_stays : (batch : Batch) (values : Values) (slot step : ℕ) → list_any (λ edit. names edit slot step) batch ≡ false
    → after_batch batch values slot step ≡ values slot step
unnamed_stays [] values slot step none = refl
unnamed_stays (edit ∷ batch) values slot step none =
    let parts = or_parts (names edit slot step) (list_any (λ edit. names edit slot step) batch) none in
    unnamed_stays batch (after_edit edit values) slot step parts.1 ∙ rw parts.0 refl

pub one_after_another : (earlier later : List Batch) (values : Values)
    → after_batches (earlier ++ later) values ≡ after_batches later (after_batches earlier values)
one_after_another [] later values = refl
one_after_another (batch ∷ earlier) later values = one_after_another earlier later (after_batch batch values)

-- ---- rows

refused_at_row : (row : ℕ) (reading : Result (List Batch) Wrong) (next other : List Batch → Result (List Batch) InputRefusal) (why : InputRefusal)
    → ((more : List Batch) → next more ≡ Err why → other more ≡ Err why) → at_row row reading next ≡ Err why → at_row row reading other ≡ Err why
refused_at_row row (Ok more) next other why later is = later more is
refused_at_row row (Err wrong) next other why later is = is

pub refused_still : (basin : Draft) (rows later : List Fields) (row : ℕ) (batches : List Batch) (why : InputRefusal)
    → more_batches basin row batches rows ≡ Err why → more_batches basin row batches (rows ++ later) ≡ Err why
refused_still basin [] later row batches why is = absurd (cc)
refused_still basin (fields ∷ rows) later row batches why is =
    refused_at_row row (batches_with basin row batches (four_fields fields)) (λ more. more_batches basin (row + 1) more rows)
    (λ more. more_batches basin (row + 1) more (rows ++ later)) why (λ more. refused_still basin rows later (row + 1) more why) is

read_at_row : (row : ℕ) (reading : Result (List Batch) Wrong) (next other : List Batch → Result (List Batch) InputRefusal) (all : List Batch)
    (rest : Result (List Batch) InputRefusal)
    → ((more : List Batch) → next more ≡ Ok all → other more ≡ rest) → at_row row reading next ≡ Ok all → at_row row reading other ≡ rest
read_at_row row (Ok more) next other all rest later is = later more is
read_at_row row (Err wrong) next other all rest later is = absurd (cc)

pub read_on : (basin : Draft) (rows later : List Fields) (row : ℕ) (batches all : List Batch) → more_batches basin row batches rows ≡ Ok all
    → more_batches basin row batches (rows ++ later) ≡ more_batches basin (row + length rows) all later
read_on basin [] later row batches all is =
    let same : batches ≡ all = cc in
    let count : row ≡ row + 0 = omega arith in
    ap₂ (λ n bs. more_batches basin n bs later) count same
read_on basin (fields ∷ rows) later row batches all is =
    let count : row + 1 + length rows ≡ row + length (fields ∷ rows) = omega arith in
    read_at_row row (batches_with basin row batches (four_fields fields)) (λ more. more_batches basin (row + 1) more rows)
    (λ more. more_batches basin (row + 1) more (rows ++ later)) all (more_batches basin (row + length (fields ∷ rows)) all later)
    (λ more is. read_on basin rows later (row + 1) more all is ∙ ap (λ n. more_batches basin n all later) count) is

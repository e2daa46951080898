-- The edits of all batches, where one is added.
use Rattle.rw_base.proofs.Common.{◌≡◌, ◌≢◌, ℕ, ◌+◌, ◌-◌, ◌==◌, ◌≤◌, ◌||◌, nat_le, nat_tests, Bool, true, false, if◌then◌else◌, List, [], ◌∷◌, ◌++◌}
use Rattle.rw_base.proofs.Common.{length, Option, Some, None, Result, Ok, Err, refl, sym, ap, subst, ◌∙◌, inl, inr, ◌⊎◌, arith, append_assoc}
use Rattle.rw_base.proofs.Common.{append-nil, slice_index_or, slice_set, length_push}
use Rattle.rw_base.specs.Answers.{unless_refused}
use Rattle.rw_model.specs.Draft.{Draft}
use Rattle.rw_inputs.specs.declared.edit.Edit.{Edit}
use Rattle.rw_inputs.specs.declared.wrong.Wrong.{Wrong}
use Rattle.rw_inputs.specs.Number.{read_number}
use Rattle.rw_inputs.specs.EditRows.{admit, at_row, batch_behind, batches_with, edits_said, batch_follows, four_fields, more_batches, batches_opened}
use Rattle.rw_inputs.specs.EditRows.{read_batch, read_edit, said, edit_said_by, with_edit, wrong_among}
use Rattle.rw_inputs.specs.Edits.{Batch, edits_in}
use Rattle.rw_inputs.specs.Records.{Fields}
use Rattle.rw_inputs.specs.Row.{wrong, ◌>>=◌}
use Rattle.rw_inputs.specs.declared.limits.TheConstants.{BATCHES_MAX}
use Rattle.rw_inputs.specs.declared.fault.InputKind.TheVariants.{BatchOrder, TooMany}
use Rattle.rw_inputs.specs.declared.wrong.Part.TheVariants.{Batch as BatchPart}

-- an edit at the end of the last batch
flat_last : (first : Batch) (batches : List Batch) (edit : Edit)
    → edits_in (slice_set (first ∷ batches) (length batches) (slice_index_or (first ∷ batches) (length batches) [] ++ edit ∷ []))
    ≡ edits_in (first ∷ batches) ++ edit ∷ []
flat_last first [] edit = append-nil (first ++ edit ∷ []) ∙ ap (λ all. all ++ edit ∷ []) (sym (append-nil first))
flat_last first (second ∷ batches) edit =
    ap (λ all. first ++ all) (flat_last second batches edit) ∙ sym (append_assoc first (edits_in (second ∷ batches)) (edit ∷ []))

flat_end : (batches : List Batch) (edit : Edit) (last : ℕ) → last + 1 ≡ length batches
    → edits_in (slice_set batches last (slice_index_or batches last [] ++ edit ∷ [])) ≡ edits_in batches ++ edit ∷ []
flat_end [] edit last is = absurd (omega (arith, is))
flat_end (first ∷ batches) edit last is =
    let here : length batches ≡ last = omega (arith, is) in
    subst (λ n. edits_in (slice_set (first ∷ batches) n (slice_index_or (first ∷ batches) n [] ++ edit ∷ []))
    ≡ edits_in (first ∷ batches) ++ edit ∷ []) here
    (flat_last first batches edit)

flat_empty : (batches : List Batch) → edits_in (batches ++ [] ∷ []) ≡ edits_in batches
flat_empty [] = refl
flat_empty (batch ∷ batches) = ap (λ all. batch ++ all) (flat_empty batches)

-- the number is that of the last batch, once it is opened
flat_with : (batches : List Batch) (number : ℕ) (edit : Edit) → length (batches_opened batches number) ≡ number → 1 ≤ number
    → edits_in (batches_opened batches number) ≡ edits_in batches → edits_in (with_edit batches number edit) ≡ edits_in batches ++ edit ∷ []
flat_with batches number edit last first same =
    flat_end (batches_opened batches number) edit (number - 1) (omega (arith, last, first)) ∙ ap (λ all. all ++ edit ∷ []) same

flat_opened : (batches : List Batch) (number : ℕ) (edit : Edit) → 1 ≤ number → (number ≡ length batches) ⊎ (number ≡ length batches + 1)
    → edits_in (with_edit batches number edit) ≡ edits_in batches ++ edit ∷ []
flat_opened batches number edit first (inl here) =
    let there : nat_le number (length batches) ≡ true = grind (arith, nat_tests) in
    let is : batches_opened batches number ≡ batches = rw there refl in
    flat_with batches number edit (ap length is ∙ sym here) first (ap edits_in is)
flat_opened batches number edit first (inr next) =
    let there : nat_le number (length batches) ≡ false = grind (arith, nat_tests) in
    let is : batches_opened batches number ≡ batches ++ [] ∷ [] = rw there refl in
    flat_with batches number edit (ap length is ∙ length_push batches [] ∙ sym next) first (ap edits_in is ∙ flat_empty batches)

-- ---- the number of a batch that is read

follows_by : (last batch : ℕ) (none here : Bool) → (last == 0) ≡ none → (batch == last) ≡ here
    → (if none then batch == 1 else (here || batch == last + 1)) ≡ true
    → (1 ≤ batch) × ((batch ≡ last) ⊎ (batch ≡ last + 1))
follows_by last batch true here zero' same is =
    let nothing : last ≡ 0 = grind (arith, nat_tests) in
    let one : batch ≡ 1 = grind (arith, nat_tests) in
    (omega (arith, one), inr (omega (arith, nothing, one)))
follows_by last batch false true some same is =
    let more : last ≢ 0 = λ nothing. absurd (grind (arith, nat_tests)) in
    let at : batch ≡ last = grind (arith, nat_tests) in
    (omega (arith, more, at), inl at)
follows_by last batch false false some same is =
    let next : batch ≡ last + 1 = grind (arith, nat_tests) in
    (omega (arith, next), inr next)

read_by : (last batch number : ℕ) (behind few : Bool) → batch_follows last batch ≡ behind
    → (if behind then (if few then Ok batch else wrong TooMany BatchPart) else wrong BatchOrder BatchPart) ≡ Ok number
    → (1 ≤ number) × ((number ≡ last) ⊎ (number ≡ last + 1))
read_by last batch number true true behind is =
    let same : batch ≡ number = cc in
    subst (λ n. (1 ≤ n) × ((n ≡ last) ⊎ (n ≡ last + 1))) same (follows_by last batch (last == 0) (batch == last) refl refl behind)
read_by last batch number true false behind is = absurd (cc)
read_by last batch number false few behind is = absurd (cc)

number_behind : (last number : ℕ) (reading : Option ℕ) → batch_behind last reading ≡ Ok number
    → (1 ≤ number) × ((number ≡ last) ⊎ (number ≡ last + 1))
number_behind last number None is = absurd (cc)
number_behind last number (Some batch) is = read_by last batch number (batch_follows last batch) (nat_le batch BATCHES_MAX) refl is

-- ---- a row that is read

flat_admitted : (batches more : List Batch) (number : ℕ) (edit : Edit) (refusal : Option Wrong)
    → (1 ≤ number) × ((number ≡ length batches) ⊎ (number ≡ length batches + 1))
    → unless_refused refusal (with_edit batches number edit) ≡ Ok more → edits_in more ≡ edits_in batches ++ edit ∷ []
flat_admitted batches more number edit None behind is =
    let same : with_edit batches number edit ≡ more = cc in
    sym (ap edits_in same) ∙ flat_opened batches number edit behind.0 behind.1
flat_admitted batches more number edit (Some refusal) behind is = absurd (cc)

flat_edit : (row : ℕ) (batches more : List Batch) (number : ℕ) (reading : Result Edit Wrong)
    → (1 ≤ number) × ((number ≡ length batches) ⊎ (number ≡ length batches + 1))
    → (reading >>= (λ edit. admit row batches number edit)) ≡ Ok more → edits_in more ≡ edits_in batches ++ said reading
flat_edit row batches more number (Ok edit) behind is = flat_admitted batches more number edit (wrong_among row batches number edit) behind is
flat_edit row batches more number (Err refusal) behind is = absurd (cc)

flat_number : (row : ℕ) (batches more : List Batch) (reading : Result Edit Wrong) (text : List ℕ) (batch : Result ℕ Wrong)
    → read_batch (length batches) text ≡ batch
    → (batch >>= (λ number. reading >>= (λ edit. admit row batches number edit))) ≡ Ok more → edits_in more ≡ edits_in batches ++ said reading
flat_number row batches more reading text (Ok number) read is =
    flat_edit row batches more number reading (number_behind (length batches) number (read_number text) read) is
flat_number row batches more reading text (Err refusal) read is = absurd (cc)

flat_row : (basin : Draft) (row : ℕ) (batches more : List Batch) (fields : Option (List ℕ × List ℕ × List ℕ × List ℕ))
    → batches_with basin row batches fields ≡ Ok more → edits_in more ≡ edits_in batches ++ edit_said_by basin fields
flat_row basin row batches more None is = absurd (cc)
flat_row basin row batches more (Some fields) is =
    flat_number row batches more (read_edit basin fields.1 fields.2 fields.3) fields.0 (read_batch (length batches) fields.0) refl is

-- ---- rows one after another

flat_behind : (basin : Draft) (row : ℕ) (batches all : List Batch) (fields : Fields) (rows : List Fields) (reading : Result (List Batch) Wrong)
    → batches_with basin row batches (four_fields fields) ≡ reading
    → ((more : List Batch) → more_batches basin (row + 1) more rows ≡ Ok all → edits_in all ≡ edits_in more ++ edits_said basin rows)
    → at_row row reading (λ more. more_batches basin (row + 1) more rows) ≡ Ok all
    → edits_in all ≡ edits_in batches ++ (edit_said_by basin (four_fields fields) ++ edits_said basin rows)
flat_behind basin row batches all fields rows (Ok more) read later is =
    later more is
    ∙ ap (λ edits. edits ++ edits_said basin rows) (flat_row basin row batches more (four_fields fields) read)
    ∙ append_assoc (edits_in batches) (edit_said_by basin (four_fields fields)) (edits_said basin rows)
flat_behind basin row batches all fields rows (Err refusal) read later is = absurd (cc)

flat_rows : (basin : Draft) (rows : List Fields) (row : ℕ) (batches all : List Batch) → more_batches basin row batches rows ≡ Ok all
    → edits_in all ≡ edits_in batches ++ edits_said basin rows
flat_rows basin [] row batches all is = let same : batches ≡ all = cc in sym (ap edits_in same) ∙ sym (append-nil (edits_in batches))
flat_rows basin (fields ∷ rows) row batches all is =
    flat_behind basin row batches all fields rows (batches_with basin row batches (four_fields fields)) refl
    (λ more. flat_rows basin rows (row + 1) more all) is

pub all_edits : (basin : Draft) (rows : List Fields) (batches : List Batch) → more_batches basin 2 [] rows ≡ Ok batches
    → edits_in batches ≡ edits_said basin rows
all_edits basin rows batches is = flat_rows basin rows 2 [] batches is

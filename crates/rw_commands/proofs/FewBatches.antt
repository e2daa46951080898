-- A text gives at most 64 batches.
use Rattle.rw_commands.proofs.Common.{Bool, Err, List, None, Ok, Option, Result, Some, [], arith, false, if◌then◌else◌, length, nat_tests, refl, subst}
use Rattle.rw_commands.proofs.Common.{true, ℕ, ◌++◌, ◌+◌, ◌∷◌, ◌≡◌, ◌≤◌}
use Rattle.rw_base.proofs.Common.{length-append, length-set, nat_le}
use Rattle.rw_base.specs.Answers.{unless_refused}
use Rattle.rw_model.specs.Draft.{Draft}
use Rattle.rw_inputs.specs.declared.wrong.Wrong.{Wrong}
use Rattle.rw_inputs.specs.EditRows.{at_row, batch_behind, batches_with, batch_follows, four_fields, is_header_of, more_batches}
use Rattle.rw_inputs.specs.EditRows.{batches_opened, read_batch, read_edit, read_under, with_edit, wrong_among}
use Rattle.rw_inputs.specs.Edits.{Batch}
use Rattle.rw_inputs.specs.Number.{read_number}
use Rattle.rw_inputs.specs.Records.{Fields, records_of}
use Rattle.rw_inputs.specs.Refusal.{InputRefusal}
use Rattle.rw_inputs.specs.Row.{◌>>=◌}

-- what goes on after an answer
after : {A B : Type 0} (result : Result A Wrong) (next : A → Result B Wrong) (y : B) → (result >>= next) ≡ Ok y
    → (x : A) × (result ≡ Ok x) × (next x ≡ Ok y)
after (Ok x) next y is = (x, refl, is)
after (Err wrong) next y is = absurd cc

-- the number of a batch is at most 64
small : (batch number : ℕ) (fits : Bool) (w : Wrong) → nat_le batch 64 ≡ fits → (if fits then Ok batch else Err w) ≡ Ok number → number ≤ 64
small batch number true w fits is = let same : batch ≡ number = cc in grind (arith, nat_tests, same, fits)
small batch number false w fits is = absurd cc

behind : (batch number : ℕ) (is_behind : Bool) (w x : Wrong)
    → (if is_behind then (if nat_le batch 64 then Ok batch else Err w) else Err x) ≡ Ok number → number ≤ 64
behind batch number true w x is = small batch number (nat_le batch 64) w refl is
behind batch number false w x is = absurd cc

at_most : (last number : ℕ) (read : Option ℕ) → batch_behind last read ≡ Ok number → number ≤ 64
at_most last number None is = absurd cc
at_most last number (Some batch) is = behind batch number (batch_follows last batch) _ _ is

-- one row more
length_opened : (batches : List Batch) (number : ℕ) → length batches ≤ 64 → number ≤ 64 → length (batches_opened batches number) ≤ 64
length_opened batches number few small = by (nat_le number (length batches)) refl
  where
    by : (there : Bool) → nat_le number (length batches) ≡ there → length (if there then batches else batches ++ [] ∷ []) ≤ 64
    by true there = few
    by false there = let more = length-append batches ([] ∷ []) in let least : length batches + 1 ≤ number =
        grind (arith, nat_tests, there) in omega (arith, more, least, small)

admitted : (found : Option Wrong) (batches more : List Batch) → unless_refused found batches ≡ Ok more → batches ≡ more
admitted None batches more is = cc
admitted (Some wrong) batches more is = absurd cc

few_with : (basin : Draft) (row : ℕ) (batches more : List Batch) (fields : Option (List ℕ × List ℕ × List ℕ × List ℕ)) → length batches ≤ 64
    → batches_with basin row batches fields ≡ Ok more → length more ≤ 64
few_with basin row batches more None few is = absurd cc
few_with basin row batches more (Some fields) few is =
    let number = after (read_batch (length batches) fields.0) _ more is in
    let edit = after (read_edit basin fields.1 fields.2 fields.3) _ more number.2 in
    let same = admitted (wrong_among row batches number.0 edit.0) (with_edit batches number.0 edit.0) more edit.2 in
    let many : length (with_edit batches number.0 edit.0) ≡ length (batches_opened batches number.0) =
    length-set (batches_opened batches number.0) _ _ in
    let most = length_opened batches number.0 few (at_most (length batches) number.0 (read_number fields.0) number.1) in
    subst (λ bs. length bs ≤ 64) same (omega (arith, many, most))

step : (basin : Draft) (row : ℕ) (rows : List Fields) (all : List Batch) (result : Result (List Batch) Wrong)
    → ((more : List Batch) → result ≡ Ok more → more_batches basin (row + 1) more rows ≡ Ok all → length all ≤ 64)
    → at_row row result (λ more. more_batches basin (row + 1) more rows) ≡ Ok all → length all ≤ 64
step basin row rows all (Ok more) next is = next more refl is
step basin row rows all (Err wrong) next is = absurd cc

few_rows : (basin : Draft) (row : ℕ) (batches all : List Batch) (rows : List Fields) → length batches ≤ 64
    → more_batches basin row batches rows ≡ Ok all → length all ≤ 64
few_rows basin row batches all [] few is = let same : batches ≡ all = cc in subst (λ bs. length bs ≤ 64) same few
few_rows basin row batches all (fields ∷ rows) few is =
    step basin row rows all (batches_with basin row batches (four_fields fields))
    (λ more with_more rest. few_rows basin (row + 1) more all rows (few_with basin row batches more (four_fields fields) few with_more) rest) is

few_behind : (basin : Draft) (named : Bool) (rows : List Fields) (all : List Batch) (w : InputRefusal)
    → (if named then more_batches basin 2 [] rows else Err w) ≡ Ok all → length all ≤ 64
few_behind basin true rows all w is = few_rows basin 2 [] all rows (omega arith) is
few_behind basin false rows all w is = absurd cc

few_read : (word : List ℕ) (basin : Draft) (records : List Fields) (all : List Batch) → read_under word basin records ≡ Ok all → length all ≤ 64
few_read word basin [] all is = absurd cc
few_read word basin (header ∷ rows) all is = few_behind basin (is_header_of word header) rows all _ is

pub few_batches : (word : List ℕ) (basin : Draft) (text : List ℕ) (all : List Batch) → read_under word basin (records_of text) ≡ Ok all → length all ≤ 64
few_batches word basin text all is = few_read word basin (records_of text) all is

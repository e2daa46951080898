-- Rows of edits that are read one after another.
use Rattle.rw_base.proofs.Common.{◌≡◌, ℕ, ◌+◌, ◌-◌, nat_le, List, [], ◌∷◌, ◌++◌, length, Result, Ok, Err, sym, ap, subst, ◌∙◌, arith, All, All-get_or}
use Rattle.rw_base.proofs.Common.{All-nil, All-push, cond_both, dec_lt, get_or_past}
use Rattle.std.proofs.lemmas.List.Elements.{All-set}
use Rattle.rw_base.specs.Answers.{IsWhy}
use Rattle.rw_model.specs.Draft.{Draft}
use Rattle.rw_inputs.specs.declared.fault.InputFault.{InputFault}
use Rattle.rw_inputs.specs.declared.fault.InputFault.TheVariants.{NoMemory}
use Rattle.rw_inputs.specs.declared.edit.Edit.{Edit}
use Rattle.rw_inputs.specs.declared.wrong.Wrong.{Wrong}
use Rattle.rw_inputs.specs.EditRows.{at_row, batch_at, batches_with, edit_column, four_fields, more_batches, batches_opened, with_edit}
use Rattle.rw_inputs.specs.Edits.{Batch, IsBatch, IsEdit}
use Rattle.rw_inputs.specs.Records.{Fields}
use Rattle.rw_inputs.specs.Refusal.{InputRefusal, input_refusal_of, refused_at}

-- what is read next of a row that is read, or that is refused
at_row-read : {A B : Type 0} (row : ℕ) (reading : Result A Wrong) (next : A → Result B InputRefusal) (x : A)
    → at_row row reading Ok ≡ Ok x → at_row row reading next ≡ next x
at_row-read row (Ok y) next x is = let same : y ≡ x = cc in ap next same
at_row-read row (Err wrong) next x is = absurd (cc)

at_row-refused : {A B : Type 0} (row : ℕ) (reading : Result A Wrong) (next : A → Result B InputRefusal) (why : InputRefusal)
    → at_row row reading Ok ≡ Err why → at_row row reading next ≡ Err why
at_row-refused row (Ok y) next why is = absurd (cc)
at_row-refused row (Err wrong) next why is =
    let same : refused_at wrong.kind row (edit_column wrong.part) ≡ why = cc in ap (λ why. Err why) same

module _ (basin : Draft) (row : ℕ) (batches : List Batch) (old rows : List Fields) (fields : Fields) (all : Result (List Batch) InputRefusal)
    (next : old ≡ fields ∷ rows) (are : more_batches basin row batches old ≡ all) where
  -- what the rows come to, by what the first one does
  row_first : at_row row (batches_with basin row batches (four_fields fields)) (λ more. more_batches basin (row + 1) more rows) ≡ all
  row_first = sym (ap (more_batches basin row batches) next) ∙ are

  pub row_read : (more : List Batch) → at_row row (batches_with basin row batches (four_fields fields)) Ok ≡ Ok more
      → more_batches basin (row + 1) more rows ≡ all
  row_read more is =
      sym (at_row-read row (batches_with basin row batches (four_fields fields)) (λ more. more_batches basin (row + 1) more rows) more is) ∙ row_first

  pub row_refused : (fault : InputFault) → IsWhy NoMemory input_refusal_of (at_row row (batches_with basin row batches (four_fields fields)) Ok) fault
      → IsWhy NoMemory input_refusal_of all fault
  row_refused fault why = (
    (λ refusal is.
        sym row_first
        ∙ at_row-refused row (batches_with basin row batches (four_fields fields)) (λ more. more_batches basin (row + 1) more rows) refusal
        (why.0 refusal is)),
    why.1,
  )

-- ---- batches of the basin

opened_made : (basin : Draft) (batches : List Batch) (number : ℕ) → All (IsBatch basin) batches → All (IsBatch basin) (batches_opened batches number)
opened_made basin batches number all =
    cond_both (nat_le number (length batches)) batches (batches ++ [] ∷ []) (All (IsBatch basin)) (λ there. all)
    (λ next. All-push (IsBatch basin) batches [] all (All-nil (IsEdit basin)))

batch_made : (basin : Draft) (batches : List Batch) (number : ℕ) → All (IsBatch basin) batches → IsBatch basin (batch_at batches number)
batch_made basin batches number all =
    elim (dec_lt (number - 1) (length batches)) [
      | yes near ↦ All-get_or (IsBatch basin) batches (number - 1) [] near all
      | no far ↦ subst (IsBatch basin) (sym (get_or_past batches (number - 1) [] (omega (arith, far)))) (All-nil (IsEdit basin))
    ]

-- an edit of the basin is taken
pub made_with : (basin : Draft) (batches : List Batch) (number : ℕ) (edit : Edit) → All (IsBatch basin) batches → IsEdit basin edit
    → All (IsBatch basin) (with_edit batches number edit)
made_with basin batches number edit all sound =
    let there = opened_made basin batches number all in
    let batch = batch_at (batches_opened batches number) number in
    All-set (IsBatch basin) (batches_opened batches number) (number - 1) (batch ++ edit ∷ [])
    (All-push (IsEdit basin) batch edit (batch_made basin (batches_opened batches number) number there) sound) there

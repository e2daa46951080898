-- A text is read as the same inputs where rules may put further ahead.
use Rattle.rw_base.proofs.Common.{ap, ap₂, cases_Bool, Err, if◌then◌else◌, inl, inr, List, None, Ok, Option, refl, Result, Some, sym, ℕ}
use Rattle.rw_base.proofs.Common.{◌++◌, ◌+◌, ◌∙◌, ◌∷◌, ◌≡◌, ◌⊎◌, []}
use Rattle.rw_base.specs.Answers.{unless_refused}
use Rattle.rw_model.specs.Draft.{Draft}
use Rattle.rw_inputs.specs.Inputs.{Inputs, row_gives, row_value_at}
use Rattle.rw_inputs.specs.Reading.{Reads, first_refusal, good, is_header, read_records, read_rows, refused_or, row_values, values_read}
use Rattle.rw_inputs.specs.Reading.{wrong_behind}
use Rattle.rw_inputs.specs.Records.{Fields, records_of}
use Rattle.rw_inputs.specs.Row.{read_row, row_of, slot_of_text, span_in, three_fields}
use Rattle.rw_inputs.specs.Number.{byte_position}
use Rattle.rw_ahead.specs.Ahead.{ahead_to}

some_or_none : {A : Type 0} (found : Option A) → ((x : A) × (found ≡ Some x)) ⊎ (found ≡ None)
some_or_none None = inr refl
some_or_none (Some x) = inl (x, refl)

ok_or_err : {A E : Type 0} (found : Result A E) → ((x : A) × (found ≡ Ok x)) ⊎ ((e : E) × (found ≡ Err e))
ok_or_err (Ok x) = inl (x, refl)
ok_or_err (Err e) = inr (e, refl)

same_fold : {A B : Type 0} (near far : List A → B) (step : A → B → B) (start : B) → near [] ≡ start → far [] ≡ start
    → ((x : A) (xs : List A) → near (x ∷ xs) ≡ step x (near xs)) → ((x : A) (xs : List A) → far (x ∷ xs) ≡ step x (far xs))
    → (xs : List A) → far xs ≡ near xs
same_fold near far step start none_near none_far one_near one_far [] = none_far ∙ sym none_near
same_fold near far step start none_near none_far one_near one_far (x ∷ xs) =
    one_far x xs ∙ ap (step x) (same_fold near far step start none_near none_far one_near one_far xs) ∙ sym (one_near x xs)

module _ (basin : Draft) (most : ℕ) where
  abbrev far : Draft
  far = ahead_to most basin

  row_far : (fields : Option (List ℕ × List ℕ × List ℕ)) → row_of far fields ≡ row_of basin fields
  row_far None = refl
  row_far (Some fields) = elim (some_or_none (slot_of_text basin fields.0)) [
    | inl named ↦ elim (some_or_none (span_in fields.1 (byte_position 45 fields.1))) [
      | inl span ↦ rw (named.1, span.1) refl
      | inr no_span ↦ rw (named.1, no_span) refl
    ]
    | inr unnamed ↦ rw unnamed refl
  ]

  values_far : (rows : List Fields) → row_values far rows ≡ row_values basin rows
  values_far [] = refl
  values_far (row ∷ rows) = ap₂ (λ read rest. good read ++ rest) (row_far (three_fields row)) (values_far rows)

  wrong_far : (before : List Fields) (row : Fields) → wrong_behind far before (read_row far row) ≡ wrong_behind basin before (read_row basin row)
  wrong_far before row = ap (wrong_behind far before) (row_far (three_fields row)) ∙ elim (ok_or_err (read_row basin row)) [
    | inl read ↦ rw (read.1, values_far before) refl
    | inr refused ↦ rw refused.1 refl
  ]

  refusal_far : (number : ℕ) (before rows : List Fields) → first_refusal far number before rows ≡ first_refusal basin number before rows
  refusal_far number before [] = refl
  refusal_far number before (row ∷ rows) =
      ap₂ (λ wrong later. refused_or number wrong later) (wrong_far before row) (refusal_far (number + 1) (before ++ row ∷ []) rows)

  rows_far : (rows : List Fields) → values_read far (read_rows far rows) ≡ values_read basin (read_rows basin rows)
  rows_far rows =
      ap (values_read far) (ap₂ (λ refusal read. unless_refused refusal read) (refusal_far 2 [] rows) (values_far rows))
      ∙ elim (ok_or_err (read_rows basin rows)) [
        | inl read ↦ rw read.1 (ap Ok (λ i slot step. (same_fold
            (λ given. row_value_at basin given slot step) (λ given. row_value_at far given slot step)
            (λ given rest. if row_gives basin given slot step then Some given.value else rest) None refl refl
            (λ given rest. refl) (λ given rest. refl) read.0) i))
        | inr refused ↦ rw refused.1 refl
      ]

  records_far : (records : List Fields) → values_read far (read_records far records) ≡ values_read basin (read_records basin records)
  records_far [] = refl
  records_far (header ∷ rows) = elim (cases_Bool (is_header header)) [
    | inl heads ↦ rw heads (rows_far rows)
    | inr other ↦ rw other refl
  ]

pub reads_far : (basin : Draft) (most : ℕ) (text : List ℕ) (inputs : Inputs) → Reads basin text inputs → Reads (ahead_to most basin) text inputs
reads_far basin most text inputs reads = record {
  made = record {
    slots = reads.made.slots;
    steps = reads.made.steps;
    sound = λ slot step value held. let kept = reads.made.sound slot step value held in record { least = kept.least; within = kept.within };
  };
  values = records_far basin most (records_of text) ∙ reads.values;
}

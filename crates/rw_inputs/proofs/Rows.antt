-- Rows that are taken one after another.
use Rattle.rw_base.proofs.Common.{◌≡◌, ℕ, false, List, [], ◌∷◌, ◌++◌, Option, Some, None, refl, sym, ap, subst, ◌∙◌, append_assoc, append-nil, Ok}
use Rattle.rw_base.proofs.Common.{list_any}
use Rattle.csv.specs.Records.{field_at}
use Rattle.rw_model.specs.Draft.{Draft}
use Rattle.rw_inputs.specs.declared.row_value.RowValue.{RowValue}
use Rattle.rw_inputs.specs.Row.{three_fields, read_row}
use Rattle.rw_inputs.specs.EditRows.{four_fields}
use Rattle.rw_inputs.specs.Inputs.{Inputs, Keeps}
use Rattle.rw_inputs.specs.Records.{Fields}
use Rattle.rw_inputs.specs.Reading.{good, row_values, shares_cell, wrong_behind}

-- ---- three fields

-- the four fields that show whether there are three
abbrev pub three_from : Option (List ℕ) → Option (List ℕ) → Option (List ℕ) → Option (List ℕ) → Option (List ℕ × List ℕ × List ℕ)
three_from (Some a) (Some b) (Some c) None = Some (a, b, c)
three_from (Some a) (Some b) (Some c) (Some d) = None
three_from (Some a) (Some b) None d = None
three_from (Some a) None c d = None
three_from None b c d = None

pub three-by_place : (fields : Fields) → three_fields fields
    ≡ three_from (field_at fields 0) (field_at fields 1) (field_at fields 2) (field_at fields 3)
unfolding field_at
three-by_place [] = refl
three-by_place (a ∷ []) = refl
three-by_place (a ∷ b ∷ []) = refl
three-by_place (a ∷ b ∷ c ∷ []) = refl
three-by_place (a ∷ b ∷ c ∷ d ∷ fields) = refl

-- ---- four fields

-- the five fields that show whether there are four
abbrev pub four_from : Option (List ℕ) → Option (List ℕ) → Option (List ℕ) → Option (List ℕ) → Option (List ℕ)
    → Option (List ℕ × List ℕ × List ℕ × List ℕ)
four_from (Some a) (Some b) (Some c) (Some d) None = Some (a, b, c, d)
four_from (Some a) (Some b) (Some c) (Some d) (Some e) = None
four_from (Some a) (Some b) (Some c) None e = None
four_from (Some a) (Some b) None d e = None
four_from (Some a) None c d e = None
four_from None b c d e = None

pub four-by_place : (fields : Fields)
    → four_fields fields ≡ four_from (field_at fields 0) (field_at fields 1) (field_at fields 2) (field_at fields 3) (field_at fields 4)
unfolding field_at
four-by_place [] = refl
four-by_place (a ∷ []) = refl
four-by_place (a ∷ b ∷ []) = refl
four-by_place (a ∷ b ∷ c ∷ []) = refl
four-by_place (a ∷ b ∷ c ∷ d ∷ []) = refl
four-by_place (a ∷ b ∷ c ∷ d ∷ e ∷ fields) = refl

-- ---- what rows give

row_values-append : (basin : Draft) (before : List Fields) (row : Fields)
    → row_values basin (before ++ row ∷ []) ≡ row_values basin before ++ good (read_row basin row)
row_values-append basin [] row = append-nil (good (read_row basin row))
row_values-append basin (first ∷ before) row =
    ap (λ rows. good (read_row basin first) ++ rows) (row_values-append basin before row)
    ∙ sym (append_assoc (good (read_row basin first)) (row_values basin before) (good (read_row basin row)))

-- a row with which nothing is wrong is taken
pub row_taken : (basin : Draft) (before : List Fields) (row : Fields) (row_value : RowValue) (inputs : Inputs) → read_row basin row ≡ Ok row_value
    → (list_any (shares_cell basin row_value) (row_values basin before) ≡ false) × Keeps basin (row_values basin before ++ row_value ∷ []) inputs
    → (wrong_behind basin before (read_row basin row) ≡ None) × Keeps basin (row_values basin (before ++ row ∷ [])) inputs
row_taken basin before row row_value inputs is taken = (
  ap (wrong_behind basin before) is ∙ rw taken.0 refl,
  subst (λ rows. Keeps basin rows inputs) (sym (row_values-append basin before row ∙ ap (λ read. row_values basin before ++ good read) is)) taken.1,
)

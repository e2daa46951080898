-- A line told from a list of values.
use Rattle.rw_base.proofs.Common.{◌≡◌, ◌++◌, ◌+◌, ◌∙◌, ◌∷◌, ◌<◌, List, Option, [], ap, ap₂, append_assoc, append-nil, codes, decimal, get_or, length}
use Rattle.rw_base.proofs.Common.{refl, suc, take, take_more, suc-eq-add-one, sym, zero, ℕ, ℤ}
use Rattle.rw_calendar.specs.Stamps.{end_of_step, stamp_text}
use Rattle.rw_model.specs.Objects.{all_slots}
use Rattle.rw_model.specs.Draft.{Draft}
use Rattle.rw_report.specs.Section.{for_each, row, value_words}
use Rattle.rw_report.specs.Sheet.{sheet_line, values_listed, values_words}

-- one value more
next_value : (values : ℕ → Option ℤ) (before : ℕ) → values_listed values before ++ values (before + 1) ∷ [] ≡ values_listed values (before + 1)
next_value values before =
    let e = suc-eq-add-one before in
    ap (λ n. values_listed values before ++ values n ∷ []) (sym e) ∙ ap (λ n. values_listed values n) e

-- and one that was put behind those that there were
pub value_put : (values : ℕ → Option ℤ) (before : ℕ) (old new : List (Option ℤ)) (value : Option ℤ)
    → new ≡ old ++ value ∷ [] → old ≡ values_listed values before → value ≡ values (before + 1) → new ≡ values_listed values (before + 1)
value_put values before old new value put front same = put ∙ ap₂ (λ t v. t ++ v ∷ []) front same ∙ next_value values before

-- one value more that is alike, of those that are there
pub alike_more : (all : List (Option ℤ)) (values : ℕ → Option ℤ) (before place : ℕ) (value : Option ℤ) → place ≡ before → before < length all
    → value ≡ get_or all place value → value ≡ values (before + 1) → take before all ≡ values_listed values before
    → take (before + 1) all ≡ values_listed values (before + 1)
alike_more all values before place value at within read same front =
    take_more all before value within
    ∙ ap₂ (λ t v. t ++ v ∷ []) front (sym (read ∙ ap (λ n. get_or all n value) at) ∙ same)
    ∙ next_value values before

words_more : (values : List (Option ℤ)) (value : Option ℤ)
    → values_words (values ++ value ∷ []) ≡ values_words values ++ (codes "," ++ value_words value)
words_more [] value = append-nil (codes "," ++ value_words value)
words_more (first ∷ values) value =
    ap (λ t. (codes "," ++ value_words first) ++ t) (words_more values value)
    ∙ sym (append_assoc (codes "," ++ value_words first) (values_words values) (codes "," ++ value_words value))

listed_words : (values : ℕ → Option ℤ) (count : ℕ)
    → values_words (values_listed values count) ≡ for_each (λ slot. codes "," ++ value_words (values slot)) count
listed_words values zero = refl
listed_words values (suc before) =
    words_more (values_listed values before) (values (suc before))
    ∙ ap (λ t. t ++ (codes "," ++ value_words (values (suc before)))) (listed_words values before)

-- the line of the values of all slots is that of the table
pub row_told : (basin : Draft) (values : ℕ → ℕ → Option ℤ) (step : ℕ)
    → sheet_line basin step (values_listed (λ slot. values slot step) (length (all_slots basin.objects))) ≡ row basin values step
row_told basin values step =
    ap (λ t. (decimal step ++ (codes "," ++ stamp_text (end_of_step basin.control.stamps step))) ++ (t ++ codes "\n"))
    (listed_words (λ slot. values slot step) (length (all_slots basin.objects)))

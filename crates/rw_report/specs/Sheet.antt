-- A sheet: what was told last of a basin's runs, whose table is told line by line from lists of values.
use Rattle.std.specs.Prelude.{◌≡◌, ◌<◌, ◌+◌, ℕ, zero, suc, ℤ, List, [], ◌∷◌, ◌++◌, length, Option, Some, codes, slice_get}
use Rattle.std.specs.Fmt.{decimal}
use Rattle.rw_calendar.specs.Stamps.{end_of_step, stamp_text}
use Rattle.rw_model.specs.Draft.{Draft}
use Rattle.rw_model.specs.Objects.{all_slots}
use Rattle.rw_run.specs.Log.{Cells}
use Rattle.rw_report.specs.Section.{value_words, values_in}

-- the basin of whose runs it tells, the text that it told last, and the values of the lines that it keeps of it, of the first timesteps
pub record Sheet : Type 0 where
  pub basin : Draft
  pub text : List ℕ
  pub values : List (List (Option ℤ))

-- ---- a line by its values

-- the values of the slots 1, 2, .. up to this number, one after another
abbrev pub values_listed : (ℕ → Option ℤ) → ℕ → List (Option ℤ)
values_listed values zero = []
values_listed values (suc before) = values_listed values before ++ values (suc before) ∷ []

-- a comma and the words of each value
abbrev pub values_words : List (Option ℤ) → List ℕ
values_words [] = []
values_words (value ∷ values) = (codes "," ++ value_words value) ++ values_words values

-- the line of a timestep at which the slots have these values
abbrev pub sheet_line : Draft → (step : ℕ) → List (Option ℤ) → List ℕ
sheet_line basin step values =
    (decimal step ++ (codes "," ++ stamp_text (end_of_step basin.control.stamps step))) ++ (values_words values ++ codes "\n")

-- ---- values that were told

-- the values of all slots at a timestep, by what cells hold
abbrev pub values_of : Draft → Cells → ℕ → List (Option ℤ)
values_of basin cells step = values_listed (λ slot. values_in cells slot step) (length (all_slots basin.objects))

-- the values that were told of the first timesteps are those of these cells
abbrev pub AreToldOf : Draft → Cells → List (List (Option ℤ)) → Type 0
AreToldOf basin cells told =
    (before : ℕ) (values : List (Option ℤ)) → slice_get told before ≡ Some values → values ≡ values_of basin cells (before + 1)

-- those are that were told of timesteps before this one
abbrev pub AreToldBefore : Draft → Cells → ℕ → List (List (Option ℤ)) → Type 0
AreToldBefore basin cells same told =
    (before : ℕ) (values : List (Option ℤ)) → before + 1 < same → slice_get told before ≡ Some values → values ≡ values_of basin cells (before + 1)

-- Lines of a table that are kept beside the values from which they were told.
use Rattle.std.specs.Prelude.{◌≡◌, ◌≢◌, ◌<◌, ◌≤◌, ◌+◌, ◌++◌, [], ℕ, zero, suc, List, Option, None, Some, length, slice_get, string_bytes}
use Rattle.std.specs.List.{All}
use Rattle.rw_model.specs.Draft.{Draft}
use Rattle.rw_run.specs.Log.{Cells}
use Rattle.rw_report.specs.declared.kept.KeptLine.{KeptLine}
use Rattle.rw_report.specs.Sheet.{sheet_line, values_of}

-- where a line tells of a timestep, its text is that of its values at it
abbrev pub IsTold : Draft → KeptLine → Type 0
IsTold basin line = line.step ≢ 0 → string_bytes line.text ≡ sheet_line basin line.step line.values.items

-- it tells of this timestep, and its values are those of these cells
pub record TellsKeptLine (basin : Draft) (cells : Cells) (step : ℕ) (line : KeptLine) : Type 0 where
  pub step_is : line.step ≡ step
  pub values_are : line.values.items ≡ values_of basin cells step

-- so do the first lines, so many of them, of the first timesteps
abbrev pub TellFirst : Draft → Cells → ℕ → List KeptLine → Type 0
TellFirst basin cells count lines =
    (place : ℕ) (line : KeptLine) → place < count → slice_get lines place ≡ Some line → TellsKeptLine basin cells (place + 1) line

-- the first lines, so many of them, tell of the first timesteps
abbrev pub AreInPlace : ℕ → List KeptLine → Type 0
AreInPlace count lines = (place : ℕ) (line : KeptLine) → place < count → slice_get lines place ≡ Some line → line.step ≡ place + 1

-- where any of these lines tells of a timestep, it does so of its values, and the first ones, so many of them, tell what these cells hold
pub record AreKeptLines (basin : Draft) (cells : Cells) (count : ℕ) (lines : List KeptLine) : Type 0 where
  pub told : All (IsTold basin) lines
  pub there : count ≤ length lines
  pub same : TellFirst basin cells count lines

-- ---- their texts

abbrev pub text_in : Option KeptLine → List ℕ
text_in None = []
text_in (Some line) = string_bytes line.text

-- the texts of the first lines, so many of them, one after another
abbrev pub first_texts : ℕ → List KeptLine → List ℕ
first_texts zero lines = []
first_texts (suc before) lines = first_texts before lines ++ text_in (slice_get lines before)

-- The summary of many runs, as text: of each cell in how many of the runs that settled it is known, and its least value, the median
-- and the greatest.
use Rattle.std.specs.Prelude.{◌≡◌, Bool, if◌then◌else◌, ℕ, zero, suc, ◌+◌, ◌-◌, ◌*◌, ℤ, List, [], ◌∷◌, ◌++◌, length, Option, None, Some, slice_get}
use Rattle.std.specs.Prelude.{codes}
use Rattle.std.specs.Fmt.{decimal}
use Rattle.std.specs.List.{filter_map, flat_map}
use Rattle.rw_model.specs.Draft.{Draft}
use Rattle.rw_model.specs.Objects.{all_slots}
use Rattle.rw_run.specs.Log.{Cells}
use Rattle.rw_report.specs.Section.{for_each, slot_words, value_words, values_in}
use Rattle.rw_mrm.specs.Statistics.{greatest_value, least_value, median}
use Rattle.rw_mrm.specs.Tally.{Tally, cell_table}

-- ---- its text, by the values of each cell

abbrev pub summary_columns : List ℕ
summary_columns = codes "slot,step,known,min,median,max\n"

-- how many of how many runs settled
abbrev pub summary_heading : (settled runs : ℕ) → List ℕ
summary_heading settled runs = (codes "# summary " ++ decimal settled) ++ ((codes " of " ++ decimal runs) ++ codes "\n")

abbrev pub statistics : List ℤ → List ℕ
statistics values =
    decimal (length values) ++ ((codes "," ++ value_words (least_value values))
    ++ ((codes "," ++ value_words (median values)) ++ ((codes "," ++ value_words (greatest_value values)) ++ codes "\n")))

-- the line of a cell that has these values
abbrev pub cell_line : Draft → (slot step : ℕ) → List ℤ → List ℕ
cell_line basin slot step values = slot_words basin slot ++ ((codes "," ++ decimal step) ++ (codes "," ++ statistics values))

-- the lines of the cells of so many slots at so many timesteps, slot after slot
abbrev pub cell_lines : Draft → (slots steps : ℕ) → (ℕ → ℕ → List ℤ) → List ℕ
cell_lines basin slots steps values = for_each (λ slot. for_each (λ step. cell_line basin slot step (values slot step)) steps) slots

-- ---- by runs

-- whether a run settled, and what the cells held at its end
pub record Ended : Type 0 where
  pub settled : Bool
  pub cells : Cells

-- the cells of those that settled
abbrev pub settled_in : List Ended → List Cells
settled_in [] = []
settled_in (run ∷ runs) = if run.settled then run.cells ∷ settled_in runs else settled_in runs

-- the values of a cell in these, one for each in which it is known
abbrev pub values_among : List Cells → (slot step : ℕ) → List ℤ
values_among tables slot step = filter_map (λ cells. values_in cells slot step) tables

-- the summary of these runs
abbrev pub summary_of : Draft → List Ended → List ℕ
summary_of basin runs =
    summary_heading (length (settled_in runs)) (length runs) ++
    (summary_columns ++ cell_lines basin (length (all_slots basin.objects)) basin.control.stamps.count (values_among (settled_in runs)))

-- ---- by a tally

abbrev pub known_one : Option (Option ℤ) → List ℤ
known_one None = []
known_one (Some None) = []
known_one (Some (Some value)) = value ∷ []

-- the values that stand in a place of the first tables, so many of them, of this size
abbrev pub known_in : List (Option ℤ) → (size place count : ℕ) → List ℤ
known_in values size place zero = []
known_in values size place (suc before) = known_in values size place before ++ known_one (slice_get values (before * size + place))

-- where a cell stands in a table
abbrev pub place_in_table : (steps slot step : ℕ) → ℕ
place_in_table steps slot step = (slot - 1) * steps + (step - 1)

abbrev pub values_in_tally : Tally → (slot step : ℕ) → List ℤ
values_in_tally tally slot step = known_in tally.values (tally.slots * tally.steps) (place_in_table tally.steps slot step) tally.settled

abbrev pub summary_by : Draft → Tally → List ℕ
summary_by basin tally = summary_heading tally.settled tally.runs ++
    (summary_columns ++ cell_lines basin tally.slots tally.steps (values_in_tally tally))

-- a tally of these runs
pub record IsTallyOf (basin : Draft) (runs : List Ended) (tally : Tally) : Type 0 where
  pub values : tally.values ≡ flat_map (cell_table basin) (settled_in runs)
  pub settled : tally.settled ≡ length (settled_in runs)
  pub runs_are : tally.runs ≡ length runs

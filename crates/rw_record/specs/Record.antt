-- A closed timestep, as it is kept.
use Rattle.std.specs.Prelude.{◌≡◌, ◌↔◌, ◌⊎◌, ℕ, ◌<◌, ◌≤◌, List, [], ◌∷◌, Contains, length, max, min, All}
use Rattle.rw_base.specs.declared.number.Cell.{Cell}
use Rattle.rw_run.specs.Reuse.{most_kept}
use Rattle.rw_run.specs.declared.held.Held.{Held}
use Rattle.rw_run.specs.declared.trace.TraceEvent.{TraceEvent}

-- which it is, the cells at which it looked or which its puts reached, with what they held before it, and its lines
pub record StepRecord : Type 0 where
  pub step : ℕ
  pub looked : List Held
  pub lines : List TraceEvent

-- the cell is of a lower slot, or of the same slot at an earlier timestep
abbrev pub IsBelow : Cell → Cell → Type 0
IsBelow cell other = (cell.slot.0 < other.slot.0) ⊎ ((cell.slot.0 ≡ other.slot.0) × (cell.step.0 < other.step.0))

-- each of the cells is below the next ones
abbrev pub AreRisingCells : List Held → Type 0
AreRisingCells [] = Unit {0}
AreRisingCells (first ∷ rest) = All (λ (later : Held). IsBelow first.cell later.cell) rest × AreRisingCells rest

-- the least timestep at which one of the cells is
abbrev pub least_step : List Held → ℕ
least_step [] = 65535
least_step (one ∷ rest) = min one.cell.step.0 (least_step rest)

-- the greatest one
abbrev pub greatest_step : List Held → ℕ
greatest_step [] = 0
greatest_step (one ∷ rest) = max one.cell.step.0 (greatest_step rest)

-- there are too many of these cells or lines to be kept
abbrev pub IsLarge : List Held → List TraceEvent → Type 0
IsLarge noted lines = (most_kept < length noted) ⊎ (most_kept < length lines)

-- it has these cells, rising, and these lines, and there aren't too many of either
pub record IsRecordOf (step : ℕ) (noted : List Held) (lines : List TraceEvent) (kept : StepRecord) : Type 0 where
  pub step_is : kept.step ≡ step
  pub few_cells : length noted ≤ most_kept
  pub few_lines : length lines ≤ most_kept
  pub members : (one : Held) → Contains kept.looked one ↔ Contains noted one
  pub rising : AreRisingCells kept.looked
  pub lines_are : kept.lines ≡ lines

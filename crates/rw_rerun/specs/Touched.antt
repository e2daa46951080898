-- Within the crate: which cells records hold, found by their order.
use Rattle.std.specs.Prelude.{◌≡◌, ◌≤◌, ◌<◌, ◌&&◌, ℕ, Bool, true, false, nat_le, not, List, length, IfSome, Option, Some, None, slice_get}
use Rattle.std.specs.List.{list_any}
use Rattle.rw_base.specs.declared.number.Cell.{Cell}
use Rattle.rw_model.specs.Draft.{Draft}
use Rattle.rw_model.specs.Links.{group_of}
use Rattle.rw_run.specs.Dispatch.{cell_at}
use Rattle.rw_run.specs.declared.held.Held.{Held}
use Rattle.rw_record.specs.Noted.{is_noted}
use Rattle.rw_record.specs.Record.{AreRisingCells, IsBelow, StepRecord, greatest_step, least_step}

-- so many first ones are below the cell
abbrev pub AreBelow : List Held → Cell → ℕ → Type 0
AreBelow looked cell count = (place : ℕ) (one : Held) → slice_get looked place ≡ Some one → place < count → IsBelow one.cell cell

-- from this one on none is
abbrev pub AreNotBelow : List Held → Cell → ℕ → Type 0
AreNotBelow looked cell count = (place : ℕ) (one : Held) → slice_get looked place ≡ Some one → count ≤ place → ¬ IsBelow one.cell cell

-- so many are below the cell, the first ones
pub record CountsBelow (looked : List Held) (cell : Cell) (count : ℕ) : Type 0 where
  pub few : count ≤ length looked
  pub below : AreBelow looked cell count
  pub others : AreNotBelow looked cell count

-- ---- timesteps that batches touch

-- the timestep is between those at which these cells are
abbrev pub spans : List Held → ℕ → Bool
spans looked step = nat_le (least_step looked) step && nat_le step (greatest_step looked)

-- one of these cells shares its value with this one
abbrev pub is_reached : Draft → List Held → Cell → Bool
is_reached basin looked cell = list_any (λ slot. is_noted looked (cell_at slot cell.step.0)) (group_of basin.objects basin.links cell.slot.0)

-- a timestep is kept, and its record holds none of these cells, nor one that shares its value with one of them
abbrev pub is_untouched : Draft → List Cell → Option StepRecord → Bool
is_untouched basin cells None = false
is_untouched basin cells (Some kept) = not (list_any (is_reached basin kept.looked) cells)

-- the cells of each record rise
abbrev pub AreRisingIn : List (Option StepRecord) → Type 0
AreRisingIn was = (place : ℕ) (entry : Option StepRecord) → slice_get was place ≡ Some entry → IfSome entry (λ kept. AreRisingCells kept.looked)

-- so many are untouched, the first ones
pub record CountsUntouched (basin : Draft) (cells : List Cell) (was : List (Option StepRecord)) (count : ℕ) : Type 0 where
  pub few : count ≤ length was
  pub each : (place : ℕ) (entry : Option StepRecord) → place < count → slice_get was place ≡ Some entry → is_untouched basin cells entry ≡ true

-- ---- timesteps from which on cells change

-- none of these cells is at a timestep before this one
abbrev pub AreFrom : ℕ → List Cell → Type 0
AreFrom step cells = (place : ℕ) (cell : Cell) → slice_get cells place ≡ Some cell → step ≤ cell.step.0

-- a record holds no cell at a timestep before this one
abbrev pub HoldFrom : ℕ → List Held → Type 0
HoldFrom step looked = (place : ℕ) (one : Held) → slice_get looked place ≡ Some one → step ≤ one.cell.step.0

-- so it is where a timestep is kept, and where it isn't there is none before
abbrev pub IsFrom : ℕ → Option StepRecord → Type 0
IsFrom step None = step ≡ 0
IsFrom step (Some kept) = HoldFrom step kept.looked

-- so from this place on
abbrev pub AreKeptOf : ℕ → ℕ → List (Option StepRecord) → Type 0
AreKeptOf step behind was = (place : ℕ) (entry : Option StepRecord) → behind ≤ place → slice_get was place ≡ Some entry → IsFrom step entry

-- cells and what is kept from a place on reach no cell at a timestep before this one
pub record ReachFrom (cells : List Cell) (was : List (Option StepRecord)) (behind step : ℕ) : Type 0 where
  pub named : AreFrom step cells
  pub kept : AreKeptOf step behind was

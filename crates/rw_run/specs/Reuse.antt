-- Which timesteps go in a later run as they went in an earlier one, so that they need not be run again.
use Rattle.std.specs.Prelude.{◌≡◌, ◌↔◌, ℕ, ◌<◌, ◌≤◌, List, [], ◌∷◌, Contains, Some, IsSome, All}
use Rattle.rw_run.specs.declared.limits.TheConstants.{MOST_KEPT}
use Rattle.rw_model.specs.Draft.{Draft}
use Rattle.rw_run.specs.Frame.{AreAlike}
use Rattle.rw_run.specs.Log.{Log, cells_of}
use Rattle.rw_run.specs.Step.{before_opening, before_closing, cell_count, line_count, looked_at}

-- the most cells, and the most lines, of a timestep that is kept
abbrev pub most_kept : ℕ
most_kept = MOST_KEPT

-- the timestep was closed in the earlier run and has few enough cells and lines, and each cell at which it looked or which its puts
-- reached is held alike just before its opening in both: value, number and writer, or unknown
pub record IsReused (basin : Draft) (earlier later : Log) (step : ℕ) : Type 0 where
  pub closed : IsSome (before_closing step earlier)
  pub few_cells : cell_count (looked_at basin step earlier) ≤ most_kept
  pub few_lines : line_count step earlier ≤ most_kept
  pub one : Log
  pub one_is : before_opening step earlier ≡ Some one
  pub other : Log
  pub other_is : before_opening step later ≡ Some other
  pub alike : AreAlike (cells_of basin one) (cells_of basin other) (looked_at basin step earlier)

-- the timestep was closed in the earlier run and opened in the later one, and each cell at which it looked there or which its puts
-- reached is held alike just before its opening in both, however many these are
pub record IsHeldAlike (basin : Draft) (earlier later : Log) (step : ℕ) : Type 0 where
  pub closed : IsSome (before_closing step earlier)
  pub one : Log
  pub one_is : before_opening step earlier ≡ Some one
  pub other : Log
  pub other_is : before_opening step later ≡ Some other
  pub alike : AreAlike (cells_of basin one) (cells_of basin other) (looked_at basin step earlier)

-- each of the numbers is below the next ones
abbrev pub AreRising : List ℕ → Type 0
AreRising [] = Unit {0}
AreRising (first ∷ rest) = All (λ later. first < later) rest × AreRising rest

-- the timesteps that the later run opened and that aren't reused, rising
pub record AreRerun (basin : Draft) (earlier later : Log) (steps : List ℕ) : Type 0 where
  pub rising : AreRising steps
  pub those : (step : ℕ) → Contains steps step ↔ (IsSome (before_opening step later) × ¬ IsReused basin earlier later step)

-- the timesteps that the run opened, rising
pub record AreOpened (log : Log) (steps : List ℕ) : Type 0 where
  pub rising : AreRising steps
  pub those : (step : ℕ) → Contains steps step ↔ IsSome (before_opening step log)

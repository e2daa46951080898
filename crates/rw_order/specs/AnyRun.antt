-- Whole runs without rules in which any object that waits may be the next to be dispatched.
use Rattle.std.specs.Prelude.{◌≡◌, ◌⊎◌, ℕ, ◌<◌, ℤ, List, [], Some}
use Rattle.rw_series.specs.Series.{held}
use Rattle.rw_base.specs.declared.number.Cell.{Cell}
use Rattle.rw_model.specs.Draft.{Draft}
use Rattle.rw_run.specs.Choice.{MayLead}
use Rattle.rw_run.specs.Log.{Event, Log, cells_of, value_in}
use Rattle.rw_run.specs.Next.{no_rules}
use Rattle.rw_run.specs.Runs.{IsOver, with_inputs, standing}
use Rattle.rw_run.specs.Waiting.{since}
use Rattle.rw_run.specs.RunOf.{end_of}
use Rattle.rw_run.specs.declared.run.Run.{Run}
use Rattle.rw_run.specs.declared.run.RunEnd.TheVariants.{Settled}

-- the whole log of these inputs: they are placed, and event follows event until it is over
pub record IsAnyRun (basin : Draft) (inputs : List (Cell × ℤ)) (log : Log) : Type 0 where
  pub events : List Event
  pub leads : MayLead basin no_rules (with_inputs [] inputs) events log
  pub end : IsOver basin (standing log)

-- the log ended in no fault
abbrev pub IsSettledLog : Log → Type 0
IsSettledLog log = end_of log ≡ Settled

-- the one waits since an earlier event than the other, or since the same one, and has a lesser number
pub record WaitsBefore (basin : Draft) (log : Log) (one other : ℕ) : Type 0 where
  pub first : ℕ
  pub second : ℕ
  pub since_one : since basin log one ≡ Some first
  pub since_other : since basin log other ≡ Some second
  pub earlier : (first < second) ⊎ ((first ≡ second) × (one < other))

-- the run settled, with the values of the log
pub record SettlesAs (basin : Draft) (log : Log) (run : Run) : Type 0 where
  pub end : run.end ≡ Settled
  pub values : (cell : Cell) → value_in (held run.series) cell ≡ value_in (cells_of basin log) cell

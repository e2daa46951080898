-- What every run keeps, said of the table that it comes to.
use Rattle.std.specs.Prelude.{◌≡◌, ℕ, ◌≤◌, Some}
use Rattle.rw_base.specs.declared.number.Cell.{Cell}
use Rattle.rw_model.specs.Draft.{Draft}
use Rattle.rw_series.specs.Series.{held}
use Rattle.rw_run.specs.declared.run.Run.{Run}
use Rattle.rw_run.specs.Log.{Cells, Log, cells_of}
use Rattle.rw_run.specs.Next.{Policy}
use Rattle.rw_run.specs.Step.{before_closing}
use Rattle.rw_laws.specs.Balances.{AllBalanced}
use Rattle.rw_laws.specs.Links.{HoldAsLinked}
use Rattle.rw_laws.specs.Priority.{KeepPriority}
use Rattle.rw_laws.specs.Rules.{AllStandBy}

-- a timestep was closed; each rule's last firing stood then; the cells up to it hold still what they held then, and are balanced
pub record KeepsStep (basin : Draft) (policy : Policy) (log : Log) (cells : Cells) (step : ℕ) : Type 0 where
  pub before : Log
  pub is : before_closing step log ≡ Some before
  pub rules : AllStandBy basin policy step before
  pub stays : (cell : Cell) → cell.step.0 ≤ step → cells cell ≡ cells_of basin before cell
  pub balance : AllBalanced basin step cells

-- a log, and the run that it comes to: links and priorities, and each timestep that the table has
pub record KeepsLaws (basin : Draft) (policy : Policy) (log : Log) (run : Run) : Type 0 where
  pub links : HoldAsLinked basin (held run.series)
  pub priority : KeepPriority basin log
  pub steps : (step : ℕ) → 1 ≤ step → step ≤ run.closed → KeepsStep basin policy log (held run.series) step

-- Runs in which any object that waits may be the next to be dispatched.
use Rattle.std.specs.Prelude.{ℤ, List, []}
use Rattle.rw_base.specs.declared.number.Cell.{Cell}
use Rattle.rw_model.specs.Draft.{Draft}
use Rattle.rw_run.specs.Choice.{MayLead}
use Rattle.rw_run.specs.Log.{Event, Log}
use Rattle.rw_run.specs.Next.{Policy}
use Rattle.rw_run.specs.Runs.{with_inputs}

-- the log of these inputs up to some event: they are placed, and event follows event, whichever of the objects that wait is dispatched
pub record IsLed (basin : Draft) (policy : Policy) (inputs : List (Cell × ℤ)) (log : Log) : Type 0 where
  pub events : List Event
  pub leads : MayLead basin policy (with_inputs [] inputs) events log

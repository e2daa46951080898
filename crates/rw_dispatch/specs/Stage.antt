-- What a dispatch works on: cells, and the objects that wait.
use Rattle.std.specs.Prelude.{◌≡◌, Some}
use Rattle.rw_base.specs.declared.number.Cell.{Cell}
use Rattle.rw_model.specs.declared.content.Content.{Content}
use Rattle.rw_model.specs.Draft.{Draft}
use Rattle.rw_model.specs.Links.{IsBetween, bounds_in}
use Rattle.rw_series.specs.Series.{Series, held, IsCell, IsSeriesOf}
use Rattle.rw_run.specs.Log.{Cells, Event, held_after}
use Rattle.rw_run.specs.Waiting.{queued_after}
use Rattle.rw_dispatch.specs.Queue.{Queue, IsQueueOf}

pub record RunStage : Type 0 where
  pub series : Series
  pub queue : Queue

abbrev pub stage : Series → Queue → RunStage
stage series queue = record { series = series; queue = queue }

-- what a cell holds is within the bounds of its slot
abbrev pub AreBounded : Draft → Cells → Type 0
AreBounded basin cells = (cell : Cell) (content : Content) → IsCell basin cell → cells cell ≡ Some content
    → IsBetween (bounds_in basin.objects basin.links basin.bounds cell.slot.0) content.value

-- a series made for the basin, whose slots hold values that they can have
pub record IsHeldIn (basin : Draft) (series : Series) : Type 0 where
  pub made : IsSeriesOf basin series
  pub bounded : AreBounded basin (held series)

-- both are made for the basin
pub record IsStageOf (basin : Draft) (stage : RunStage) : Type 0 where
  pub series : IsHeldIn basin stage.series
  pub queue : IsQueueOf basin stage.queue

-- an event leaves the cells and the queue so
pub record Leaves (basin : Draft) (event : Event) (old new : RunStage) : Type 0 where
  pub cells : (cell : Cell) → held new.series cell ≡ held_after basin event (held old.series) cell
  pub queue : new.queue.waiting ≡ queued_after basin event old.queue.waiting

-- What a dispatch leaves in the workspace.
use Rattle.std.specs.Prelude.{◌≡◌, IsTrue}
use Rattle.rw_model.specs.Draft.{Draft}
use Rattle.rw_run.specs.Frame.{IsFault}
use Rattle.rw_run.specs.Log.{Event, asked_in, written_by}
use Rattle.rw_dispatch.specs.Writes.{AreWrites}
use Rattle.rw_dispatch.specs.declared.workspace.Workspace.{Workspace}

-- it has what the event of the dispatch writes and, where it keeps that and the event is no fault, what the event asks for
pub record HasJudged (basin : Draft) (event : Event) (old new : Workspace) : Type 0 where
  pub writes : new.writes ≡ written_by event
  pub can : AreWrites basin new.writes
  pub keeps : new.keeps ≡ old.keeps
  pub asked : IsTrue old.keeps → (¬ IsFault event) → new.asked ≡ asked_in event
  pub can_ask : IsTrue old.keeps → AreWrites basin new.asked

-- A session: the run of some inputs, and its timesteps as they are kept.
use Rattle.std.specs.Prelude.{◌≡◌, ◌≤◌, ◌<◌, ◌+◌, ℕ, List, [], map, length, IfOk, IsSome, Option, Result}
use Rattle.rw_base.specs.declared.memory.NoMemory.{NoMemory}
use Rattle.rw_base.specs.declared.number.Cell.{Cell}
use Rattle.rw_base.specs.declared.number.StepNo.{StepNo}
use Rattle.rw_model.specs.Draft.{Draft}
use Rattle.rw_inputs.specs.Edits.{Batch, after_batch}
use Rattle.rw_inputs.specs.Placings.{placings}
use Rattle.rw_inputs.specs.Inputs.{Inputs, IsInputsOf, value_at}
use Rattle.rw_series.specs.Series.{held}
use Rattle.rw_run.specs.Log.{Log}
use Rattle.rw_run.specs.Reuse.{AreOpened, AreRerun}
use Rattle.rw_run.specs.Runs.{IsRun, with_inputs}
use Rattle.rw_record.specs.Record.{StepRecord}
use Rattle.rw_engine.specs.Engine.{Engine}
use Rattle.rw_engine.specs.Shows.{IsEngineOf, KeepsOn, Shows}
use Rattle.rpl_verify.specs.Verified.{Accepted}
use Rattle.rw_rules.specs.Rules.{policy_in}
use Rattle.rw_rerun.specs.Kept.{AreKept, AreStepLinks}

-- what it is a session of, its inputs, the engine of their run, what is kept of each timestep, the timesteps that its last run ran, and
-- the timestep before which all cells hold what they held in the run before
pub record Session : Type 0 where
  pub basin : Draft
  pub policy : Accepted
  pub inputs : Inputs
  pub engine : Engine
  pub kept : List (Option StepRecord)
  pub reran : List StepNo
  pub same : ℕ

abbrev pub numbers_of_steps : List StepNo → List ℕ
numbers_of_steps steps = map (λ (step : StepNo). step.0) steps

-- it has come to the whole run of its inputs, and keeps each timestep that can be kept
pub record IsSessionOf (basin : Draft) (policy : Accepted) (session : Session) : Type 0 where
  pub of_basin : session.basin ≡ basin
  pub by_policy : session.policy ≡ policy
  pub given : IsInputsOf basin session.inputs
  pub made : IsEngineOf basin policy session.engine
  pub noted : IsSome session.engine.noted
  pub log : Log
  pub whole : IsRun basin (policy_in basin policy) (placings basin session.inputs) log
  pub shows : Shows basin session.engine log
  pub many : length session.kept ≡ basin.control.stamps.count
  pub kept : AreKept basin (policy_in basin policy) log 1 session.kept
  pub linked : AreStepLinks basin (policy_in basin policy) 1 (with_inputs [] (placings basin session.inputs)) session.kept log

-- it was started: each timestep was run that the run opened
pub record IsStarted (basin : Draft) (policy : Accepted) (inputs : Inputs) (session : Session) : Type 0 where
  pub is : IsSessionOf basin policy session
  pub inputs_are : session.inputs ≡ inputs
  pub opened_steps : AreOpened is.log (numbers_of_steps session.reran)
  pub none_same : session.same ≡ 0

-- all cells at timesteps before this one hold what they held in the run before
abbrev pub HoldAsBefore : Session → Session → Type 0
HoldAsBefore old new = (cell : Cell) → cell.step.0 < new.same → held new.engine.series cell ≡ held old.engine.series cell

-- a batch of edits was applied: the timesteps were run that aren't as they were in the run before
pub record Applies (basin : Draft) (policy : Accepted) (batch : Batch) (old new : Session) : Type 0 where
  pub is : IsSessionOf basin policy new
  pub values : value_at new.inputs ≡ after_batch batch (value_at old.inputs)
  pub rerun : (earlier : Log) → IsRun basin (policy_in basin policy) (placings basin old.inputs) earlier
      → AreRerun basin earlier is.log (numbers_of_steps new.reran)
  pub before_same : HoldAsBefore old new
  pub kept : KeepsOn old.engine new.engine

-- a call counts the timesteps that it runs, and at most all where memory wants
pub record CountsRuns {A : Type 0} (basin : Draft) (before after : ℕ) (result : Result A NoMemory) (reran : A → List StepNo) : Type 0 where
  pub each : IfOk result (λ done. after ≡ before + length (reran done))
  pub rises : before ≤ after
  pub few : after ≤ before + basin.control.stamps.count

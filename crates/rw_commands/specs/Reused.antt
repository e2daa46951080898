-- Within the crate: sections of a session's runs.
use Rattle.std.specs.Prelude.{◌≡◌, ◌+◌, ◌==◌, ℕ, IfOk, List, length, MatchResult, Option, Some, None, Result, is_some, true, if◌then◌else◌}
use Rattle.rw_base.specs.declared.number.StepNo.{StepNo}
use Rattle.rw_model.specs.Draft.{Draft}
use Rattle.rw_inputs.specs.Edits.{Batch}
use Rattle.rw_inputs.specs.Placings.{placings}
use Rattle.rw_io.specs.Outside.{Change, SinkView}
use Rattle.rw_run.specs.Log.{Log}
use Rattle.rw_run.specs.Runs.{IsRun}
use Rattle.rw_run.specs.declared.run.RunEnd.{RunEnd}
use Rattle.rpl_verify.specs.Verified.{Accepted}
use Rattle.rw_report.specs.Sheet.{AreToldBefore, Sheet}
use Rattle.rw_rerun.specs.Session.{IsSessionOf, Session}
use Rattle.rw_series.specs.Series.{held}
use Rattle.rw_commands.specs.Policy.{PolicyFile as Rules}
use Rattle.rw_commands.specs.RunText.{CountsOf, CountsRun, IsRerun, IsRulesText, policy_in_run}
use Rattle.rw_commands.specs.Sections.{AppendsAll, CountsAll, GivenInputs, StopsAmong}
use Rattle.rw_commands.specs.declared.extras.Extras.{Extras}
use Rattle.rw_commands.specs.declared.refusal.Refusal.{Refusal}

-- the timesteps that are told in the section of this number: none in the first one
abbrev pub told_of : ℕ → List StepNo → Option (List StepNo)
told_of number reran = if number == 0 then None else Some reran

-- the run of a session that takes timesteps over can be told on a sheet, which has told what its cells held before
pub record CanTell (basin : Draft) (policy : Accepted) (extras : Extras) (session : Session) (sheet : Sheet) : Type 0 where
  pub made : IsSessionOf basin policy session
  pub reuse : extras.reuse ≡ true
  pub traced : is_some session.engine.trace ≡ extras.trace
  pub own : sheet.basin ≡ basin
  pub same : AreToldBefore basin (held session.engine.series) session.same sheet.values

-- the section of this number is next, and those timesteps that its run wants were run
pub record IsNextSection (basin : Draft) (policy : Rules) (number : ℕ) (given : GivenInputs) (session : Session) : Type 0 where
  pub inputs_are : given.inputs ≡ session.inputs
  pub log : Log
  pub run : IsRun basin (policy_in_run basin policy) (placings basin given.inputs) log
  pub rerun : IsRerun basin (policy_in_run basin policy) true given log (told_of number session.reran)
  pub count : CountsOf basin (policy_in_run basin policy) given.before log (length session.reran)

-- the sections from this one on were written, and the timesteps were counted that were run for those behind it
pub record WritesFrom (basin : Draft) (policy : Rules) (extras : Extras) (number : ℕ) (given : GivenInputs) (batches : List Batch) (first : ℕ)
    (out : Change SinkView) (steps : Change ℕ) (result : Result RunEnd Refusal) : Type 0 where
  pub text : MatchResult result (AppendsAll (IsRulesText basin policy extras) number given batches out)
      (StopsAmong (IsRulesText basin policy extras) number given batches out)
  pub counted : IfOk result (λ end. (rest : ℕ) × (steps.after ≡ steps.before + rest)
      × CountsAll (CountsRun basin (policy_in_run basin policy)) given batches (first + rest))

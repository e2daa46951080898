-- Within the crate: the next run of a session: it begins behind the timesteps that a batch leaves.
use Rattle.std.specs.Prelude.{◌≡◌, ◌≤◌, ◌+◌, ℕ, List, [], length, take, IfOk, Option, Result}
use Rattle.rw_base.specs.declared.memory.NoMemory.{NoMemory}
use Rattle.rw_base.specs.declared.number.Cell.{Cell}
use Rattle.rw_model.specs.Draft.{Draft}
use Rattle.rw_inputs.specs.Edits.{Batch}
use Rattle.rw_inputs.specs.Placings.{placings}
use Rattle.rw_inputs.specs.Inputs.{Inputs}
use Rattle.rw_run.specs.Log.{Log}
use Rattle.rw_run.specs.Runs.{with_inputs}
use Rattle.rw_record.specs.Record.{StepRecord}
use Rattle.rw_engine.specs.Shows.{KeepsOn}
use Rattle.rpl_verify.specs.Verified.{Accepted}
use Rattle.rw_rules.specs.Rules.{policy_in}
use Rattle.rw_rerun.specs.Edited.{LeavesFirst}
use Rattle.rw_rerun.specs.Kept.{AreKept, changed}
use Rattle.rw_rerun.specs.Session.{IsSessionOf, Session}
use Rattle.rw_rerun.specs.Spare.{BeginsBy, BringsTo, GivesAll, StandsIn}
use Rattle.rw_rerun.specs.UnderWay.{IsPassOf, IsUnderWay}
use Rattle.rw_rerun.specs.declared.pass.Pass.{Pass}
use Rattle.rw_rerun.specs.declared.spare.Spare.{Spare}

-- what is kept of the first timesteps stays
abbrev pub StayFirst : List (Option StepRecord) → ℕ → Pass → Type 0
StayFirst was behind pass = take behind (changed was pass.changes.items) ≡ take behind was

-- a spare engine was brought behind so many timesteps, and then given the cells
pub record IsSpareReady (basin : Draft) (inputs : Inputs) (cells : List Cell) (was : List (Option StepRecord)) (behind : ℕ) (old new : Spare) : Type 0 where
  pub mid : Spare
  pub brings : BringsTo basin was behind old mid
  pub same : new.behind ≡ mid.behind
  pub gives : GivesAll basin inputs cells mid.engine new.engine

-- a run is on its way by a spare engine that was made ready
pub record BeginsReady (basin : Draft) (inputs : Inputs) (cells : List Cell) (was : List (Option StepRecord)) (behind : ℕ) (old : Spare) (pass : Pass) : Type 0 where
  pub new : Spare
  pub ready : IsSpareReady basin inputs cells was behind old new
  pub begins : BeginsBy new pass

-- by the spare engine of the run before a call comes behind all timesteps of the run after a batch, and counts those that it runs
pub record PassesBehind (basin : Draft) (policy : Accepted) (inputs : Inputs) (cells : List Cell) (was : List (Option StepRecord)) (behind : ℕ) (spare : Spare)
    (before after : ℕ) (result : Result Pass NoMemory) : Type 0 where
  pub made : IfOk result (λ pass. IsPassOf basin policy pass)
  pub kept : IfOk result (λ pass. KeepsOn spare.engine pass.engine)
  pub goes : (old : Inputs) (batch : Batch) (earlier : Log) → LeavesFirst basin batch cells old inputs was behind
      → AreKept basin (policy_in basin policy) earlier 1 was → StandsIn basin policy (with_inputs [] (placings basin old)) earlier was spare
      → IfOk result (λ pass. IsUnderWay basin (policy_in basin policy) inputs earlier was pass basin.control.stamps.count)
  pub stay : IfOk result (StayFirst was behind)
  pub each : IfOk result (λ pass. after ≡ before + length pass.reran.items)
  pub rises : before ≤ after
  pub few : after ≤ before + basin.control.stamps.count

-- it has passed all timesteps of the run after some batch, behind those that this leaves of the session's run
pub record IsNext (basin : Draft) (policy : Accepted) (session : Session) (inputs : Inputs) (cells : List Cell) (behind : ℕ) (pass : Pass) : Type 0 where
  pub is : IsSessionOf basin policy session
  pub batch : Batch
  pub leaves : LeavesFirst basin batch cells session.inputs inputs session.kept behind
  pub made : IsPassOf basin policy pass
  pub kept : KeepsOn session.engine pass.engine
  pub way : IsUnderWay basin (policy_in basin policy) inputs is.log session.kept pass basin.control.stamps.count
  pub stay : StayFirst session.kept behind pass

-- a call passes all timesteps of the run after a batch that leaves so many first ones of a session's run, and counts those that it runs
pub record PassesNext (basin : Draft) (policy : Accepted) (session : Session) (inputs : Inputs) (cells : List Cell) (behind : ℕ) (before after : ℕ)
    (result : Result Pass NoMemory) : Type 0 where
  pub next : (batch : Batch) → LeavesFirst basin batch cells session.inputs inputs session.kept behind
      → IfOk result (IsNext basin policy session inputs cells behind)
  pub each : IfOk result (λ pass. after ≡ before + length pass.reran.items)
  pub rises : before ≤ after
  pub few : after ≤ before + basin.control.stamps.count

-- A run on its way, timestep by timestep, with an earlier one to go by.
use Rattle.std.specs.Prelude.{◌≡◌, ◌≤◌, ◌<◌, ◌+◌, ◌++◌, ℕ, Bool, true, false, List, [], length, Err, IfOk, IfSome, IsSome, is_some, Ok, Option, Some, Result, slice_get}
use Rattle.rw_base.specs.declared.memory.NoMemory.{NoMemory}
use Rattle.rw_model.specs.Draft.{Draft}
use Rattle.rw_inputs.specs.Placings.{placings}
use Rattle.rw_inputs.specs.Inputs.{Inputs}
use Rattle.rw_series.specs.Series.{held}
use Rattle.rw_run.specs.Frame.{IsFramed}
use Rattle.rw_run.specs.Log.{Event, Log}
use Rattle.rw_run.specs.Next.{Policy}
use Rattle.rw_run.specs.Reuse.{AreRerun}
use Rattle.rw_run.specs.Runs.{Leads, Standing, over, with_inputs, rests, standing}
use Rattle.rw_run.specs.Step.{events_of}
use Rattle.rw_record.specs.Noted.{AreHeld}
use Rattle.rw_record.specs.Record.{StepRecord}
use Rattle.rw_engine.specs.Records.{CanWriteLines}
use Rattle.rw_engine.specs.Shows.{CanShow, IsEngineOf, KeepsOn, Shows}
use Rattle.rpl_verify.specs.Verified.{Accepted}
use Rattle.rw_rules.specs.Rules.{policy_in}
use Rattle.rw_rerun.specs.Kept.{AreKept, AreStepLinks, IsKeptOrNot, changed}
use Rattle.rw_rerun.specs.Session.{numbers_of_steps}
use Rattle.rw_rerun.specs.declared.pass.Pass.{Pass}

-- where a run stands behind so many timesteps
abbrev pub stands_at : Bool → ℕ → Standing
stands_at false step = rests step
stands_at true step = over

-- it has come behind this timestep: each one was taken over or run, and kept anew, or its run is over
pub record IsUnderWay (basin : Draft) (policy : Policy) (inputs : Inputs) (earlier : Log) (was : List (Option StepRecord)) (pass : Pass) (step : ℕ) : Type 0 where
  pub many : length pass.changes.items ≡ step
  pub log : Log
  pub events : List Event
  pub leads : Leads basin policy (with_inputs [] (placings basin inputs)) events log
  pub shows : Shows basin pass.engine log
  pub stands : standing log ≡ stands_at pass.over step
  pub shown : pass.over ≡ false → CanShow basin (step + 1) log
  -- no later timestep was opened
  pub later : (other : ℕ) → step < other → events_of other log ≡ []
  pub rerun : AreRerun basin earlier log (numbers_of_steps pass.reran.items)
  pub kept : AreKept basin policy log 1 (changed was pass.changes.items)
  pub linked : AreStepLinks basin policy 1 (with_inputs [] (placings basin inputs)) (changed was pass.changes.items) log

-- its engine is one of the basin and the policy, and notes timesteps
pub record IsPassOf (basin : Draft) (policy : Accepted) (pass : Pass) : Type 0 where
  pub made : IsEngineOf basin policy pass.engine
  pub noted : IsSome pass.engine.noted

-- a record of this timestep, of which what was written can be written
pub record IsReplayable (basin : Draft) (step : ℕ) (kept : StepRecord) : Type 0 where
  pub step_is : kept.step ≡ step
  pub can : CanWriteLines basin kept.lines

-- what is kept of the timestep behind this one, as it went in the earlier run
pub record IsEntry (basin : Draft) (policy : Policy) (earlier : Log) (was : List (Option StepRecord)) (last : ℕ) (entry : Option StepRecord) : Type 0 where
  pub there : slice_get was last ≡ Some entry
  pub kept : IsKeptOrNot basin policy earlier (last + 1) entry

-- what it changes of what is kept of the timesteps before stays as it is
abbrev pub GrowsChanges : Pass → Pass → Type 0
GrowsChanges old new = (more : List (Option (Option StepRecord))) × (new.changes.items ≡ old.changes.items ++ more)

-- a call comes behind one timestep more, where what is kept of it is so, and counts it if it is run
pub record GoesOn (basin : Draft) (policy : Accepted) (step : ℕ) (Fits : Option StepRecord → Type 0) (old new : Pass) (before after : ℕ) (result : Result (Unit {0}) NoMemory) : Type 0 where
  pub made : IfOk result (λ done. IsPassOf basin policy new)
  pub goes : (inputs : Inputs) (earlier : Log) (was : List (Option StepRecord)) (last : ℕ) (entry : Option StepRecord)
      → IsFramed (policy_in basin policy) → IsEntry basin (policy_in basin policy) earlier was last entry → Fits entry → step ≡ last + 1
      → IsUnderWay basin (policy_in basin policy) inputs earlier was old last
      → IfOk result (λ done. IsUnderWay basin (policy_in basin policy) inputs earlier was new step)
  pub grows : IfOk result (λ done. GrowsChanges old new)
  pub kept : IfOk result (λ done. KeepsOn old.engine new.engine)
  pub each : IfOk result (λ done. after + length old.reran.items ≡ before + length new.reran.items)
  pub rises : before ≤ after
  pub few : after ≤ before + 1

-- it isn't held alike what the timestep looked at
abbrev pub IsUnlike : Pass → Option StepRecord → Type 0
IsUnlike pass entry = IfSome entry (λ kept. ¬ AreHeld (held pass.engine.series) kept.looked)

-- each record is of its timestep
abbrev pub AreReplayable : Draft → List (Option StepRecord) → Type 0
AreReplayable basin was = (place : ℕ) (kept : StepRecord) → slice_get was place ≡ Some (Some kept) → IsReplayable basin (place + 1) kept

-- what is kept of an earlier run of the basin, by which the next one can go: a place for each timestep, with a record of that one or none
pub record CanGoBy (basin : Draft) (was : List (Option StepRecord)) : Type 0 where
  pub many : length was ≡ basin.control.stamps.count
  pub each : AreReplayable basin was

-- a call comes from behind so many timesteps behind all, with what was kept of an earlier run to go by, and counts those that it runs
pub record PassesRest (basin : Draft) (policy : Accepted) (was : List (Option StepRecord)) (behind : ℕ) (old new : Pass) (before after : ℕ) (result : Result (Unit {0}) NoMemory) : Type 0 where
  pub made : IfOk result (λ done. IsPassOf basin policy new)
  pub goes : (inputs : Inputs) (earlier : Log) → AreKept basin (policy_in basin policy) earlier 1 was
      → IsUnderWay basin (policy_in basin policy) inputs earlier was old behind
      → IfOk result (λ done. IsUnderWay basin (policy_in basin policy) inputs earlier was new basin.control.stamps.count)
  pub grows : IfOk result (λ done. GrowsChanges old new)
  pub kept : IfOk result (λ done. KeepsOn old.engine new.engine)
  pub each : IfOk result (λ done. after + length old.reran.items ≡ before + length new.reran.items)
  pub rises : before ≤ after
  pub few : after ≤ before + basin.control.stamps.count

-- a call hands a run on its way on, behind all timesteps, and counts those that it ran
abbrev pub HandsOn : Draft → Accepted → List (Option StepRecord) → ℕ → Pass → ℕ → ℕ → Result Pass NoMemory → Type 0
HandsOn basin policy was behind old before after (Ok new) = PassesRest basin policy was behind old new before after (Ok tt)
HandsOn basin policy was behind old before after (Err why) = (before ≤ after) × (after ≤ before + basin.control.stamps.count)

-- a call comes behind all timesteps from inputs on, and counts those that it runs
pub record PassesAll (basin : Draft) (policy : Accepted) (inputs : Inputs) (traced : Bool) (was : List (Option StepRecord)) (before after : ℕ) (result : Result Pass NoMemory) : Type 0 where
  pub made : IfOk result (λ pass. IsPassOf basin policy pass)
  pub kept : IfOk result (λ pass. is_some pass.engine.trace ≡ traced)
  pub goes : (earlier : Log) → AreKept basin (policy_in basin policy) earlier 1 was
      → IfOk result (λ pass. IsUnderWay basin (policy_in basin policy) inputs earlier was pass basin.control.stamps.count)
  pub each : IfOk result (λ pass. after ≡ before + length pass.reran.items)
  pub rises : before ≤ after
  pub few : after ≤ before + basin.control.stamps.count

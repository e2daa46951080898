-- A timestep, from its opening to its end, and a run.
use Rattle.std.specs.Prelude.{◌≡◌, ◌≤◌, ℕ, ◌+◌, ℤ, List, [], ◌∷◌, IfErr, IfOk, IsSome, Option, Result, Ok, Err, option_map}
use Rattle.rw_base.specs.declared.memory.NoMemory.{NoMemory}
use Rattle.rw_base.specs.declared.number.Cell.{Cell}
use Rattle.rw_model.specs.Draft.{Draft}
use Rattle.rw_series.specs.Series.{Sets, held}
use Rattle.rw_run.specs.Frame.{IsFramed, log_after}
use Rattle.rw_run.specs.Log.{Event, Log, input_content, opened}
use Rattle.rw_run.specs.Next.{Policy}
use Rattle.rw_run.specs.Runs.{Leads, IsRun, with_inputs, standing, rests, inside}
use Rattle.rw_run.specs.RunOf.{IsRunOf, opened_by}
use Rattle.rw_run.specs.Timestep.{IsTimestep}
use Rattle.rw_run.specs.declared.run.Run.{Run}
use Rattle.rw_record.specs.Noted.{AreHeld}
use Rattle.rw_record.specs.Record.{StepRecord}
use Rattle.rw_inputs.specs.Inputs.{Inputs, IsInputsOf}
use Rattle.rw_inputs.specs.Placings.{placings}
use Rattle.rw_engine.specs.Engine.{Engine}
use Rattle.rw_engine.specs.Records.{HasNoted, IsUntold, Records, RecordsThese}
use Rattle.rw_engine.specs.declared.step_end.StepEnd.{StepEnd}
use Rattle.rw_engine.specs.declared.step_end.StepEnd.TheVariants.{Closed as IsClosed, Fault as IsFault}
use Rattle.rpl_verify.specs.Verified.{Accepted, verified}
use Rattle.rw_rules.specs.Rules.{policy_in}
use Rattle.rw_engine.specs.Shows.{CanReplay, CanShow, IsBefore, IsEngineOf, KeepsOn, Shows, EndsBy, closed_by}

-- the policy is accepted for the basin, and these are inputs of it, so it has a run
pub record CanRun (basin : Draft) (policy : Accepted) (given : Inputs) : Type 0 where
  pub fits : verified basin policy.blocks ≡ Ok policy
  pub inputs : IsInputsOf basin given

-- an engine of the basin and the policy stands before the first timestep of the run of the inputs
pub record BeginsRun (basin : Draft) (policy : Accepted) (inputs : Inputs) (engine : Engine) : Type 0 where
  pub made : IsEngineOf basin policy engine
  pub shows : Shows basin engine (with_inputs [] (placings basin inputs))
  pub turns : engine.turns ≡ 0

-- in the new log this timestep has followed the old one up to its closing, and an engine that notes timesteps has noted it
pub record ClosesStep (basin : Draft) (policy : Policy) (step : ℕ) (old new : Log) (engine : Engine) : Type 0 where
  pub first : Event
  pub events : List Event
  pub timestep : IsTimestep basin policy step old first events
  pub is : new ≡ log_after (first ∷ events) (opened step ∷ old)
  pub noted : IsSome engine.noted → HasNoted basin step old (first ∷ events) engine

abbrev pub EndsStep : Draft → Policy → StepEnd → ℕ → Log → Log → Engine → Type 0
EndsStep basin policy IsClosed step old new engine = ClosesStep basin policy step old new engine
EndsStep basin policy (IsFault why) step old new engine = Unit {0}

-- the events of the timestep follow, up to its closing or to the fault, and the engine shows them
pub record Passes (basin : Draft) (policy : Policy) (log : Log) (end : StepEnd) (engine : Engine) (step : ℕ) : Type 0 where
  pub events : List Event
  pub last : Event
  pub before : Log
  pub leads : Leads basin policy log events (last ∷ before)
  pub within : standing before ≡ inside step
  pub ends : EndsBy end step last
  pub shows : Shows basin engine (last ∷ before)
  pub closes : EndsStep basin policy end step log (last ∷ before) engine

-- a call passes the timestep after the last closed one. After want of memory the engine shows what it showed before, and no timestep is noted
pub record RunsStep (basin : Draft) (policy : Accepted) (step : ℕ) (old new : Engine) (result : Result StepEnd NoMemory) : Type 0 where
  pub made : IsEngineOf basin policy new
  pub passes : (log : Log) → Shows basin old log → IsBefore basin step log → IfOk result (λ end. Passes basin (policy_in basin policy) log end new step)
  pub before : (log : Log) → Shows basin old log → IfErr result (λ fault. Shows basin new log)
  pub untold : IfErr result (λ fault. IsUntold new)
  pub kept : KeepsOn old new
  pub closed_steps : IfOk result (λ end. new.closed ≡ closed_by end step old.closed)

-- a call passes again the timestep of which this is the record. After want of memory the engine shows what it showed before, and no
-- timestep is noted
pub record Replays (basin : Draft) (kept : StepRecord) (old new : Engine) (result : Result (Unit {0}) NoMemory) : Type 0 where
  pub made : (policy : Accepted) → IsEngineOf basin policy old → IsEngineOf basin policy new
  pub passes : (policy : Policy) (log : Log) → IsFramed policy → Records basin policy kept → Shows basin old log → IsBefore basin kept.step log
      → AreHeld (held old.series) kept.looked → IfOk result (λ done. Passes basin policy log IsClosed new kept.step)
  pub before : (log : Log) → Shows basin old log → IfErr result (λ fault. Shows basin new log)
  pub untold : IfErr result (λ fault. IsUntold new)
  pub keeps : KeepsOn old new
  pub closed_steps : IfOk result (λ done. new.closed ≡ kept.step)

-- the events of the timestep follow, up to its closing, and the engine shows them
pub record PassesAgain (basin : Draft) (policy : Policy) (log : Log) (engine : Engine) (step : ℕ) : Type 0 where
  pub events : List Event
  pub last : Event
  pub before : Log
  pub leads : Leads basin policy log events (last ∷ before)
  pub within : standing before ≡ inside step
  pub ends : EndsBy IsClosed step last
  pub shows : Shows basin engine (last ∷ before)

-- a call does so, and no timestep is noted behind it
pub record ReplaysKept (basin : Draft) (kept : StepRecord) (old new : Engine) (result : Result (Unit {0}) NoMemory) : Type 0 where
  pub made : (policy : Accepted) → IsEngineOf basin policy old → IsEngineOf basin policy new
  pub passes : (policy : Policy) (log : Log) → IsFramed policy → Records basin policy kept → Shows basin old log → IsBefore basin kept.step log
      → AreHeld (held old.series) kept.looked → IfOk result (λ done. PassesAgain basin policy log new kept.step)
  pub before : (log : Log) → Shows basin old log → IfErr result (λ fault. Shows basin new log)
  pub untold : IsUntold new
  pub keeps : KeepsOn old new
  pub closed_steps : IfOk result (λ done. new.closed ≡ kept.step)

-- an engine has come back to this log, and is one of what it was one of
pub record ComesBack (basin : Draft) (log : Log) (old new : Engine) : Type 0 where
  pub made : (policy : Accepted) → IsEngineOf basin policy old → IsEngineOf basin policy new
  pub can : CanReplay basin new
  pub shows : Shows basin new log

-- a call takes the timestep back of which this is the record: an engine that shows a log which ends with it shows the log before it
pub record TakesBack (basin : Draft) (kept : StepRecord) (old new : Engine) : Type 0 where
  pub back : (policy : Policy) (log : Log) (first : Event) (events : List Event) → IsTimestep basin policy kept.step log first events
      → RecordsThese basin kept.step log (first ∷ events) kept → CanShow basin kept.step log
      → Shows basin old (log_after (first ∷ events) (opened kept.step ∷ log)) → ComesBack basin log old new
  pub keeps : KeepsOn old new

-- a call makes a cell, with those that share its value, hold this input, or nothing, and leaves all else
pub record GivesInput (basin : Draft) (cell : Cell) (value : Option ℤ) (old new : Engine) : Type 0 where
  pub made : (policy : Accepted) → IsEngineOf basin policy old → IsEngineOf basin policy new
  pub can : CanReplay basin new
  pub cells : Sets basin cell (option_map input_content value) old.series new.series
  pub trace : new.trace ≡ old.trace
  pub noted : new.noted ≡ old.noted
  pub closed_steps : new.closed ≡ old.closed
  pub end : new.end ≡ old.end

-- how many timesteps a call counts
abbrev pub steps_of : Result StepEnd NoMemory → ℕ
steps_of (Ok end) = 1
steps_of (Err fault) = 0

-- the timesteps that a run opened were counted, and at most all where memory was wanting
pub record CountsSteps (basin : Draft) (before after : ℕ) (result : Result Run NoMemory) : Type 0 where
  pub opened_steps : IfOk result (λ run. after ≡ before + opened_by run.end run.closed)
  pub rises : before ≤ after
  pub few : after ≤ before + basin.control.stamps.count

-- the run comes to what the whole run of the inputs does
pub record ComesTo (basin : Draft) (policy : Policy) (inputs : Inputs) (run : Run) : Type 0 where
  pub log : Log
  pub whole : IsRun basin policy (placings basin inputs) log
  pub is : IsRunOf basin log run

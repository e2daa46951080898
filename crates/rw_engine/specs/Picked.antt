-- A timestep and a run in which a rule picks who is dispatched, by a turn that is counted from dispatch to dispatch.
use Rattle.std.specs.Prelude.{◌≡◌, ◌≤◌, ◌<◌, ℕ, ◌+◌, ◌*◌, ◌-◌, ◌^◌, min, List, [], ◌∷◌, length, IfErr, IfOk, IsSome, Option, Some, None, Result, Ok, Err}
use Rattle.rw_base.specs.declared.memory.NoMemory.{NoMemory}
use Rattle.rw_model.specs.Draft.{Draft}
use Rattle.rw_run.specs.Frame.{IsStepFrom, log_after}
use Rattle.rw_run.specs.Log.{Event, Log, dispatched_in, opened}
use Rattle.rw_run.specs.Next.{Policy}
use Rattle.rw_run.specs.Choice.{MayLead}
use Rattle.rw_run.specs.Runs.{Standing, follows_by, inside, over, with_inputs, rests, standing}
use Rattle.rw_run.specs.RunOf.{IsRunOf, opened_by}
use Rattle.rw_run.specs.Waiting.{waiting}
use Rattle.rw_run.specs.declared.run.Run.{Run}
use Rattle.rw_dispatch.specs.Pick.{IsPickedRun, Picking, picked_at}
use Rattle.rw_inputs.specs.Inputs.{Inputs}
use Rattle.rw_inputs.specs.Placings.{placings}
use Rattle.rpl_verify.specs.Verified.{Accepted}
use Rattle.rw_rules.specs.Rules.{policy_in}
use Rattle.rw_engine.specs.Engine.{Engine}
use Rattle.rw_engine.specs.Records.{HasNoted, IsUntold}
use Rattle.rw_engine.specs.Shows.{IsBefore, IsEngineOf, KeepsOn, Shows, EndsBy, closed_by}
use Rattle.rw_engine.specs.declared.step_end.StepEnd.{StepEnd}
use Rattle.rw_engine.specs.declared.step_end.StepEnd.TheVariants.{Closed as IsClosed, Fault as IsFault}

-- ---- turns

-- the turn after a dispatch. It stays at the greatest number, to which no run comes
abbrev pub next_turn_number : ℕ → ℕ
next_turn_number turn = min (turn + 1) (2 ^ 64 - 1)

abbrev pub turn_behind : ℕ → Option ℕ → ℕ
turn_behind turn None = turn
turn_behind turn (Some object) = next_turn_number turn

-- the turn after events
abbrev pub turn_after : ℕ → Event → ℕ
turn_after turn event = turn_behind turn (dispatched_in event)

abbrev pub turns_after : ℕ → List Event → ℕ
turns_after turn [] = turn
turns_after turn (event ∷ events) = turns_after (turn_after turn event) events

-- the most dispatches of a timestep
abbrev pub most_turns : Draft → ℕ
most_turns basin = length basin.objects * basin.control.object_limit

-- ---- what follows

-- the event that follows where the rule picks at this turn
abbrev pub follows_at : Draft → Policy → Picking → ℕ → Log → Option Event
follows_at basin policy rule turn log = follows_by basin policy log (picked_at rule turn (waiting basin log)) (standing log)

-- within a timestep the rule picks one of those that wait, where one does
abbrev pub PicksAt : Picking → ℕ → List ℕ → Standing → Type 0
PicksAt rule turn waits (inside step) = 1 ≤ length waits → rule turn waits < length waits
PicksAt rule turn waits (rests step) = Unit {0}
PicksAt rule turn waits over = Unit {0}

-- these events follow, the first of them at this turn
abbrev pub LeadsBy : Draft → Policy → Picking → ℕ → Log → List Event → Log → Type 0
LeadsBy basin policy rule turn old [] new = new ≡ old
LeadsBy basin policy rule turn old (event ∷ events) new =
    (follows_at basin policy rule turn old ≡ Some event) × PicksAt rule turn (waiting basin old) (standing old)
    × LeadsBy basin policy rule (turn_after turn event) (event ∷ old) events new

-- ---- a timestep

-- in the new log this timestep has followed the old one up to its closing, and an engine that notes timesteps has noted it
pub record ClosesStepBy (basin : Draft) (policy : Policy) (rule : Picking) (turn step : ℕ) (old new : Log) (engine : Engine) : Type 0 where
  pub first : Event
  pub events : List Event
  pub last : ℕ
  pub rest : standing old ≡ rests last
  pub next_one : step ≡ last + 1
  pub goes : IsStepFrom step first events
  pub leads : LeadsBy basin policy rule turn (opened step ∷ old) (first ∷ events) (log_after (first ∷ events) (opened step ∷ old))
  pub is : new ≡ log_after (first ∷ events) (opened step ∷ old)
  pub noted : IsSome engine.noted → HasNoted basin step old (first ∷ events) engine

abbrev pub EndsStepBy : Draft → Policy → Picking → ℕ → StepEnd → ℕ → Log → Log → Engine → Type 0
EndsStepBy basin policy rule turn IsClosed step old new engine = ClosesStepBy basin policy rule turn step old new engine
EndsStepBy basin policy rule turn (IsFault why) step old new engine = Unit {0}

-- the turn is that after these events, and behind a fault it may be a later one
pub record CountsTurns (end : StepEnd) (before after : ℕ) (events : List Event) : Type 0 where
  pub least : turns_after before events ≤ after
  pub same : end ≡ IsClosed → after ≡ turns_after before events

-- the events of the timestep follow, up to its closing or to the fault, and the engine shows them
pub record PassesBy (basin : Draft) (policy : Policy) (rule : Picking) (turn : ℕ) (log : Log) (end : StepEnd) (engine : Engine) (step : ℕ) : Type 0 where
  pub events : List Event
  pub last : Event
  pub before : Log
  pub leads : LeadsBy basin policy rule turn log events (last ∷ before)
  pub within : standing before ≡ inside step
  pub ends : EndsBy end step last
  pub shows : Shows basin engine (last ∷ before)
  pub closes : EndsStepBy basin policy rule turn end step log (last ∷ before) engine
  pub turned : CountsTurns end turn engine.turns events

-- a call passes the timestep after the last closed one. After want of memory the engine shows what it showed before, and no timestep is noted
pub record RunsStepBy (basin : Draft) (policy : Accepted) (rule : Picking) (step : ℕ) (old new : Engine) (result : Result StepEnd NoMemory) : Type 0 where
  pub made : IsEngineOf basin policy new
  pub passes : (log : Log) → Shows basin old log → IsBefore basin step log
      → IfOk result (λ end. PassesBy basin (policy_in basin policy) rule old.turns log end new step)
  pub before : (log : Log) → Shows basin old log → IfErr result (λ fault. Shows basin new log)
  pub untold : IfErr result (λ fault. IsUntold new)
  pub kept : KeepsOn old new
  pub closed_steps : IfOk result (λ end. new.closed ≡ closed_by end step old.closed)
  pub few : IfOk result (λ end. new.turns ≤ old.turns + most_turns basin)

-- ---- a run

-- the run comes to what the whole run of the inputs does in which the rule picks, one of those that wait each time
pub record ComesToPicked (basin : Draft) (policy : Policy) (rule : Picking) (inputs : Inputs) (run : Run) : Type 0 where
  pub log : Log
  pub whole : IsPickedRun basin policy rule (placings basin inputs) log
  pub any : MayLead basin policy (with_inputs [] (placings basin inputs)) whole.events log
  pub is : IsRunOf basin log run

-- the engine shows a log that the inputs led to, in which this is the last closed timestep, and its turn is that of the log
pub record StandsPicked (basin : Draft) (policy : Policy) (rule : Picking) (inputs : Inputs) (engine : Engine) (step : ℕ) : Type 0 where
  pub log : Log
  pub events : List Event
  pub leads : LeadsBy basin policy rule 0 (with_inputs [] (placings basin inputs)) events log
  pub shows : Shows basin engine log
  pub rest : standing log ≡ rests step
  pub turned : engine.turns ≡ turns_after 0 events

-- an engine hands out what it shows
pub record Finishes (engine : Engine) (run : Run) : Type 0 where
  pub run_is : (basin : Draft) (policy : Accepted) (log : Log) → IsEngineOf basin policy engine → Shows basin engine log → IsRunOf basin log run
  pub closed_steps : (basin : Draft) (policy : Accepted) → IsEngineOf basin policy engine → run.closed ≤ basin.control.stamps.count
  pub same : (run.closed ≡ engine.closed) × (run.trace ≡ engine.trace)

-- all timesteps were passed, or as many as memory was there for: it comes to the run of the inputs that the engine began with
pub record RunsAllBy (basin : Draft) (policy : Accepted) (rule : Picking) (engine : Engine) (before after : ℕ) (result : Result Run NoMemory) : Type 0 where
  pub comes : (inputs : Inputs) → Shows basin engine (with_inputs [] (placings basin inputs)) → IfOk result (ComesToPicked basin (policy_in basin policy) rule inputs)
  pub opened_steps : (inputs : Inputs) → Shows basin engine (with_inputs [] (placings basin inputs))
      → IfOk result (λ run. after ≡ before + opened_by run.end run.closed)
  pub closed_steps : IfOk result (λ run. run.closed ≤ basin.control.stamps.count)
  pub kept : IsSome engine.trace → IfOk result (λ run. IsSome run.trace)
  pub rises : before ≤ after
  pub few : after ≤ before + basin.control.stamps.count

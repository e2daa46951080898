-- The state of an engine, and what it has within a timestep.
use Rattle.std.specs.Prelude.{◌≡◌, ℕ, ◌<◌, Bool, false, if◌then◌else◌, List, [], ◌∷◌, ◌+◌, ◌≤◌, length, All, Contains, Option, Some, None, IsSome, IfSome, Result, Ok, Err, IfOk, IfErr, is_some}
use Rattle.rw_base.specs.declared.memory.NoMemory.{NoMemory}
use Rattle.rw_model.specs.Draft.{Draft, IsObject}
use Rattle.rw_series.specs.Series.{held}
use Rattle.rw_run.specs.Frame.{IsFault}
use Rattle.rw_run.specs.Log.{Asked, Cells, Event, Log, asked_in, cells_of, last_put, opened, written_by}
use Rattle.rw_run.specs.Step.{reached_by}
use Rattle.rw_run.specs.RunOf.{lines}
use Rattle.rw_run.specs.Trace.{told}
use Rattle.rw_run.specs.declared.held.Held.{Held}
use Rattle.std.specs.Option.{option_or}
use Rattle.rw_base.specs.declared.number.Cell.{Cell}
use Rattle.rw_dispatch.specs.Stage.{IsHeldIn}
use Rattle.rw_record.specs.Record.{StepRecord}
use Rattle.rw_dispatch.specs.Writes.{AreWrites}
use Rattle.rw_record.specs.Noted.{cells_noted, with_noted}
use Rattle.rw_record.specs.Notes.{CanTakeBack, Notes}
use Rattle.rw_model.specs.Turn.{is_data}
use Rattle.rw_run.specs.Waiting.{waiting}
use Rattle.rw_run.specs.Next.{next_of, dispatches, firings, first_due}
use Rattle.rw_run.specs.Runs.{with_inputs, standing, inside}
use Rattle.rw_dispatch.specs.Pick.{Picking}
use Rattle.rw_inputs.specs.Inputs.{Inputs}
use Rattle.rw_inputs.specs.Placings.{placings}
use Rattle.rw_agenda.specs.Agenda.{IsIndexed}
use Rattle.rpl_verify.specs.Verified.{Accepted}
use Rattle.rw_rules.specs.Rules.{ShowsLooks, policy_in}
use Rattle.rw_engine.specs.Counts.{count_of_number, room}
use Rattle.rw_engine.specs.Engine.{Engine}
use Rattle.rw_engine.specs.Lines.{TraceGrows}
use Rattle.rw_engine.specs.Picked.{LeadsBy, PassesBy, most_turns, turn_after, turns_after}
use Rattle.rw_engine.specs.Records.{CanWriteAll, lines_of_step, puts_in}
use Rattle.rw_engine.specs.Shows.{IsBefore, IsEngineOf, Shows, EndsBy, closed_by}
use Rattle.rw_engine.specs.declared.state.State.{State}
use Rattle.rw_engine.specs.declared.step_end.StepEnd.{StepEnd}
use Rattle.rw_engine.specs.declared.step_end.StepEnd.TheVariants.{Closed, Fault as StepFault}
use Rattle.rw_run.specs.declared.fault.RunFault.{RunFault}
use Rattle.rw_run.specs.declared.run.RunEnd.{RunEnd}
use Rattle.rw_run.specs.declared.trace.TraceEvent.{TraceEvent}
use Rattle.rw_run.specs.declared.run.RunEnd.TheVariants.{Fault, Settled}

-- the engine that a state is seen as
abbrev pub seen : State → Engine
seen state = record {
  objects = state.queue.objects;
  rules = state.rules;
  series = state.run.series;
  trace = state.run.trace;
  closed = state.run.closed;
  end = state.run.end;
  noted = state.noted;
  lines = state.lines;
  turns = state.turns;
}

-- a state has a count for each object and each rule, and keeps what is asked for where it notes it
pub record IsSoundState (state : State) : Type 0 where
  pub counts : length state.counts ≡ state.queue.objects
  pub firings : length state.firings ≡ length state.rules.agenda.rules
  pub keeps : state.work.keeps ≡ is_some state.noted

-- a state made for the basin and the policy, with a count for each object and each rule, that keeps what is asked for where it notes it
pub record IsStateOf (basin : Draft) (policy : Accepted) (state : State) : Type 0 where
  pub engine : IsEngineOf basin policy (seen state)
  pub keeps : state.work.keeps ≡ is_some state.noted
  pub counts : length state.counts ≡ length basin.objects
  pub firings : length state.firings ≡ length state.rules.agenda.rules

-- within a timestep only objects with a method wait, and the cells of rules that aren't marked hold what they saw
pub record IsWithinStep (basin : Draft) (policy : Accepted) (state : State) : Type 0 where
  pub made : IsStateOf basin policy state
  pub ready : All (λ object. is_data basin object ≡ false) state.queue.waiting
  pub indexed : IsIndexed state.rules.agenda (held state.run.series)

-- there it also has those that wait, how often each object was dispatched, how often each rule fired, and at what it looked
pub record HoldsWithin (basin : Draft) (policy : Accepted) (state : State) (step : ℕ) (waits : List ℕ) (log : Log) : Type 0 where
  pub open_step : standing log ≡ inside step
  pub shows : Shows basin (seen state) log
  pub queue : waits ≡ waiting basin log
  pub counts : (object : ℕ) → IsObject basin.objects object → count_of_number state.counts object ≡ dispatches log object
  pub looks : ShowsLooks policy state.rules log
  pub firings : (rule : ℕ) → 1 ≤ rule → count_of_number state.firings rule ≡ firings log rule

-- after an event: the timestep goes on, or it ended by the event
abbrev pub GoesToState : Draft → Accepted → Option StepEnd → State → ℕ → Log → Event → Type 0
GoesToState basin policy None state step log event = HoldsWithin basin policy state step state.queue.waiting (event ∷ log)
GoesToState basin policy (Some end) state step log event = EndsBy end step event × Shows basin (seen state) (event ∷ log)

-- what an event looks at and reaches is noted, with what cells hold before it, behind what was noted
abbrev pub NotesThat : Draft → Cells → Option (List Held) → State → Event → Type 0
NotesThat basin cells noted state event = state.noted ≡ with_noted cells (reached_by basin event) noted

-- what an event writes it asked for
abbrev pub WritesAsked : Event → Type 0
WritesAsked event = (put : Asked) → Contains (written_by event) put → Contains (asked_in event) put

-- the turn is that after the event, and behind a fault it may be a later one
pub record CountsTurn (before after : ℕ) (event : Event) : Type 0 where
  pub least : turn_after before event ≤ after
  pub same : (¬ IsFault event) → after ≡ turn_after before event

-- after the event that follows where this object is chosen, or none where none waits. Its lines are, and it is noted unless it is a fault
pub record GoesByEvent (basin : Draft) (policy : Accepted) (chosen : Option ℕ) (end : Option StepEnd) (cells : Cells) (noted : Option (List Held)) (before : Option (List TraceEvent)) (turn : ℕ) (state : State) (step : ℕ) (log : Log) : Type 0 where
  pub event : Event
  pub follows : next_of basin (policy_in basin policy) (cells_of basin log) log step chosen ≡ Some event
  pub goes : GoesToState basin policy end state step log event
  pub notes : (¬ IsFault event) → NotesThat basin cells noted state event
  pub lines_are : state.lines ≡ told before (lines event)
  pub asks : WritesAsked event
  pub can : AreWrites basin (written_by event)
  pub turned : CountsTurn turn state.turns event

-- events within the timestep
abbrev pub AreWithinStep : ℕ → List Event → Type 0
AreWithinStep step [] = Unit {0}
AreWithinStep step (event ∷ events) = (standing (event ∷ []) ≡ inside step) × AreWithinStep step events

-- on the way through a timestep that follows this log: it is opened, and these events follow
pub record Reached (basin : Draft) (policy : Accepted) (rule : Picking) (turn : ℕ) (old : Log) (state : State) (step : ℕ) : Type 0 where
  pub events : List Event
  pub now : Log
  pub leads : LeadsBy basin (policy_in basin policy) rule turn (opened step ∷ old) events now
  pub turned : state.turns ≡ turns_after turn events
  pub holds : HoldsWithin basin policy state step state.queue.waiting now
  pub inside_step : AreWithinStep step events
  pub notes : IfSome state.noted (Notes basin (cells_of basin old) (held state.run.series) events)
  pub lines_are : IfSome state.lines (λ these. these ≡ lines_of_step step events)
  pub can : CanWriteAll basin events

-- ---- what work within a timestep keeps

-- lines may have been added, and who waits and what was counted may be another
pub record OnlyTells (old new : State) : Type 0 where
  pub series : new.run.series ≡ old.run.series
  pub noted : new.noted ≡ old.noted
  pub closed_steps : new.run.closed ≡ old.run.closed
  pub end : new.run.end ≡ old.run.end
  pub turns : new.turns ≡ old.turns
  pub grows : TraceGrows old.run.trace new.run.trace

-- the run didn't come nearer to its end
pub record IsStill (old new : State) : Type 0 where
  pub closed_steps : new.run.closed ≡ old.run.closed
  pub end : new.run.end ≡ old.run.end

-- where there is a fault the run ends by it
abbrev pub ended_by : Option RunFault → State → State
ended_by None state = state
ended_by (Some why) state = record state { run = record state.run { end = Fault why } }

-- what these cells held before can be taken back, where it is noted
abbrev pub IsRevocable : Cells → State → Type 0
IsRevocable before state = IfSome state.noted (CanTakeBack before (held state.run.series))

-- all can still be taken back
pub record KeepsWithin (basin : Draft) (policy : Accepted) (old new : State) : Type 0 where
  pub within : IsWithinStep basin policy new
  pub revocable : (before : Cells) → IsRevocable before old → IsRevocable before new
  pub notes : is_some new.noted ≡ is_some old.noted
  pub grows : TraceGrows old.run.trace new.run.trace

-- what was done since the timestep began can be taken back
pub record CanGoBack (old new : State) : Type 0 where
  pub revocable : IsRevocable (held old.run.series) new
  pub notes : is_some new.noted ≡ is_some old.noted
  pub grows : TraceGrows old.run.trace new.run.trace

-- how often objects may still be dispatched and rules may still fire
abbrev pub left : Draft → State → ℕ
left basin state = room basin.control.object_limit state.counts + room basin.control.rule_limit state.firings

-- how many turns there were and objects may still be dispatched: events within a timestep never raise it
abbrev pub turns_at_most : Draft → State → ℕ
turns_at_most basin state = state.turns + room basin.control.object_limit state.counts

-- how a timestep ended, after which the run stands so
abbrev pub step_end : RunEnd → StepEnd
step_end Settled = Closed
step_end (Fault why) = StepFault why

-- whether a timestep ended, as how it did: the state has that
abbrev pub ending : State → Bool → Option StepEnd
ending state ended = if ended then Some (step_end state.run.end) else None

abbrev pub seen_end : State → Result Bool NoMemory → Result (Option StepEnd) NoMemory
seen_end state (Ok ended) = Ok (ending state ended)
seen_end state (Err fault) = Err fault

-- unless the timestep ended, the run is still, and where it goes on, less is left to do in the timestep
abbrev pub IsOnTheWay : Draft → ℕ → Result (Option StepEnd) NoMemory → State → State → Type 0
IsOnTheWay basin step (Ok None) old new = IsStill old new × (left basin new < left basin old)
IsOnTheWay basin step (Ok (Some end)) old new = new.run.closed ≡ closed_by end step old.run.closed
IsOnTheWay basin step (Err fault) old new = IsStill old new

-- what is done for the event that follows a log of which this is given, where this object is chosen
pub record DoesEvent (basin : Draft) (policy : Accepted) (chosen : Option ℕ) (step : ℕ) (old new : State) (given : Log → Type 0) (result : Result Bool NoMemory) : Type 0 where
  pub keeps : KeepsWithin basin policy old new
  pub on_the_way : IsOnTheWay basin step (seen_end new result) old new
  pub goes : (log : Log) → given log → IfOk (seen_end new result) (λ end. GoesByEvent basin policy chosen end (held old.run.series) old.noted old.lines old.turns new step log)
  pub few : IfOk result (λ ended. turns_at_most basin new ≤ turns_at_most basin old)
  -- memory wants only where timesteps are noted
  pub wants : IfErr result (λ fault. IsSome old.noted)

-- ---- what opening and passing a timestep do

-- the inputs are placed, and no timestep is opened
pub record Begins (basin : Draft) (policy : Accepted) (inputs : Inputs) (state : State) : Type 0 where
  pub made : IsStateOf basin policy state
  pub shows : Shows basin (seen state) (with_inputs [] (placings basin inputs))
  pub turns : state.turns ≡ 0

-- nothing is noted yet
pub record IsCleared (basin : Draft) (policy : Accepted) (state : State) : Type 0 where
  pub made : IsStateOf basin policy state
  pub cleared : IfSome state.noted (λ noted. noted ≡ [])
  pub none_told : IfSome state.lines (λ these. these ≡ [])

-- the timestep is opened
pub record IsOpened (basin : Draft) (policy : Accepted) (step : ℕ) (old new : State) : Type 0 where
  pub within : IsWithinStep basin policy new
  pub lines_are : new.lines ≡ told old.lines (lines (opened step))
  pub holds : (log : Log) → Shows basin (seen old) log → IsBefore basin step log → HoldsWithin basin policy new step new.queue.waiting (opened step ∷ log)

-- the timestep was passed to its end, or memory wants within it and it can be taken back
pub record HasPassed (basin : Draft) (policy : Accepted) (rule : Picking) (step : ℕ) (old new : State) (result : Result StepEnd NoMemory) : Type 0 where
  pub made : IsStateOf basin policy new
  pub back : CanGoBack old new
  pub still : IfErr result (λ fault. IsStill old new)
  pub passes : (log : Log) → Shows basin (seen old) log → IsBefore basin step log
      → IfOk result (λ end. PassesBy basin (policy_in basin policy) rule old.turns log end (seen new) step)
  pub closed_steps : IfOk result (λ end. new.run.closed ≡ closed_by end step old.run.closed)
  pub few : IfOk result (λ end. new.turns ≤ old.turns + most_turns basin)
  pub wants : IfErr result (λ fault. IsSome old.noted)

-- ---- what passing a timestep again does

abbrev pub cleared : Option (List Held) → Option (List Held)
cleared None = None
cleared (Some noted) = Some []

-- the cells of the record are noted, its lines are told, what they say to be written is, and its timestep is closed. Where memory wants,
-- the run is as it was
pub record HasReplayed (basin : Draft) (kept : StepRecord) (old new : State) (result : Result (Unit {0}) NoMemory) : Type 0 where
  pub rules : new.rules ≡ old.rules
  pub queue : new.queue ≡ old.queue
  pub work : new.work ≡ old.work
  pub counts : new.counts ≡ old.counts
  pub firings : new.firings ≡ old.firings
  pub made : IsHeldIn basin new.run.series
  pub notes : is_some new.noted ≡ is_some old.noted
  pub keeps_lines : is_some new.lines ≡ is_some old.lines
  pub keeps_trace : is_some new.run.trace ≡ is_some old.run.trace
  pub unchanged : IfErr result (λ want. new.run ≡ old.run)
  pub untold : IfErr result (λ want. IfSome new.lines (λ these. these ≡ []))
  pub noted : IfOk result (λ done. new.noted ≡ with_noted (held old.run.series) (cells_noted kept.looked) (cleared old.noted))
  pub lines_are : IfOk result (λ done. IfSome new.lines (λ these. these ≡ kept.lines))
  pub trace : IfOk result (λ done. new.run.trace ≡ told old.run.trace kept.lines)
  pub ends : IfOk result (λ done. (new.run.end ≡ Settled) × (new.run.closed ≡ kept.step))
  pub cells : IfOk result (λ done. (cell : Cell) → held new.run.series cell
      ≡ option_or (last_put basin (puts_in kept.lines) cell) (held old.run.series cell))

-- ---- what is given of a log, for the event that follows it

-- this rule is due, or none
abbrev pub HoldsDue : Draft → Accepted → State → ℕ → Option ℕ → Log → Type 0
HoldsDue basin policy state step due log =
    HoldsWithin basin policy state step state.queue.waiting log × (first_due basin (policy_in basin policy) (held state.run.series) log ≡ due)

-- this event follows, where this object is chosen
abbrev pub HoldsBefore : Draft → Accepted → Option ℕ → State → ℕ → List ℕ → Event → Log → Type 0
HoldsBefore basin policy chosen state step waits event log =
    HoldsWithin basin policy state step waits log × (next_of basin (policy_in basin policy) (cells_of basin log) log step chosen ≡ Some event)

-- A timestep of the engine, over the log that it shows.
use Rattle.rw_engine.proofs.Common.{Bool, Cell, Cells, Draft, Engine, Event, GoesByEvent, TraceGrows, HoldsWithin, IsBefore, IsSome, IsStill, List}
use Rattle.rw_engine.proofs.Common.{Log, None, Option, Policy, Reached, Series, Settled, Shows, Some, State, [], all_waiting, ap, append-nil}
use Rattle.rw_engine.proofs.Common.{append_assoc, ap₂, arith, cells_of, closed, count_of_number, fault, false, placed, held, held_after}
use Rattle.rw_engine.proofs.Common.{if◌then◌else◌}
use Rattle.rw_engine.proofs.Common.{inside, last_put, length, lines, nat_lt, nat_tests, opened, opens, option_or, refl, seen, standing, subst, sym}
use Rattle.rw_engine.proofs.Common.{trace_of, true, written_by, ℕ, ◌++◌, ◌+◌, ◌∙◌, ◌∷◌, ◌≡◌, ◌≤◌}
use Rattle.std.specs.Prelude.{Err, IfSome, IsErrAnd, Ok, Result, is_some}
use Rattle.std.specs.List.{flat_map}
use Rattle.rw_base.proofs.Common.{All-push}
use Rattle.rw_base.specs.declared.memory.NoMemory.{NoMemory}
use Rattle.rw_dispatch.specs.Writes.{AreWrites}
use Rattle.rw_run.specs.Frame.{IsFault, IsStepFrom, log_after}
use Rattle.rw_run.specs.Log.{fired, idle, solved}
use Rattle.rw_run.specs.Timestep.{AreLooked}
use Rattle.rw_run.specs.Trace.{told}
use Rattle.rw_run.specs.declared.held.Held.{Held}
use Rattle.rw_run.specs.declared.trace.TraceEvent.{TraceEvent}
use Rattle.rw_record.specs.Noted.{AreOnce}
use Rattle.rw_record.specs.Notes.{Notes}
use Rattle.rpl_verify.specs.Verified.{Accepted}
use Rattle.rw_rules.specs.Rules.{ShowsLooks, policy_in}
use Rattle.rw_dispatch.specs.Pick.{Picking, picked_at}
use Rattle.rw_run.specs.Next.{next_of}
use Rattle.rw_run.specs.Runs.{follows_by}
use Rattle.rw_run.specs.Waiting.{waiting}
use Rattle.rw_engine.specs.Passing.{steps_of}
use Rattle.rw_engine.specs.Picked.{EndsStepBy, CountsTurns, LeadsBy, PassesBy, PicksAt, RunsStepBy, follows_at, turn_after, turns_after}
use Rattle.rw_engine.specs.Shows.{EndsBy, IsEngineOf, KeepsOn, NotesAlike}
use Rattle.rw_engine.specs.Records.{CanWriteLines, HasNoted, IsUntold, lines_of_step}
use Rattle.rw_engine.specs.State.{AreWithinStep, CanGoBack, HasPassed, IsStateOf, KeepsWithin}
use Rattle.rw_engine.specs.declared.step_end.StepEnd.{StepEnd}
use Rattle.rw_engine.specs.declared.step_end.StepEnd.TheVariants.{Closed as IsClosed, Fault as IsFaulted}
use Rattle.rw_engine.proofs.Notings.{notes_more}
use Rattle.rw_engine.proofs.Records.{can_step}
use Rattle.rw_engine.proofs.Traces.{alike_on, lines_more, shown_more, told_more}
use Rattle.rw_engine.proofs.Turns.{turns_more}

module _ (basin : Draft) (policy : Policy) (rule : Picking) where
  pub leads_more : (turn : ℕ) (old : Log) (events : List Event) (event : Event) (new : Log) → LeadsBy basin policy rule turn old events new
      → follows_at basin policy rule (turns_after turn events) new ≡ Some event
      → PicksAt rule (turns_after turn events) (waiting basin new) (standing new)
      → LeadsBy basin policy rule turn old (events ++ event ∷ []) (event ∷ new)
  leads_more turn old [] event new leads follow picks = (
    ap (follows_at basin policy rule turn) (sym leads) ∙ follow,
    subst (λ log. PicksAt rule turn (waiting basin log) (standing log)) leads picks,
    ap (λ log. event ∷ log) leads,
  )
  leads_more turn old (first ∷ events) event new leads follow picks =
      (leads.0, leads.1, leads_more (turn_after turn first) (first ∷ old) events event new leads.2 follow picks)

  pub leads_on : (turn : ℕ) (old : Log) (first last : List Event) (mid new : Log) → LeadsBy basin policy rule turn old first mid
      → LeadsBy basin policy rule (turns_after turn first) mid last new → LeadsBy basin policy rule turn old (first ++ last) new
  leads_on turn old [] last mid new one other = subst (λ log. LeadsBy basin policy rule turn log last new) one other
  leads_on turn old (event ∷ first) last mid new one other =
      (one.0, one.1, leads_on (turn_after turn event) (event ∷ old) first last mid new one.2 other)

  leads_after : (turn : ℕ) (old : Log) (events : List Event) (new : Log) → LeadsBy basin policy rule turn old events new → new ≡ log_after events old
  leads_after turn old [] new leads = leads
  leads_after turn old (event ∷ events) new leads = leads_after (turn_after turn event) (event ∷ old) events new leads.2

-- who is picked of those that wait in the state is picked in the log
picks_inside : (basin : Draft) (policy : Accepted) (rule : Picking) (state : State) (step turn : ℕ) (log : Log)
    → HoldsWithin basin policy state step state.queue.waiting log
    → state.turns ≡ turn → PicksAt rule state.turns state.queue.waiting (inside step) → PicksAt rule turn (waiting basin log) (standing log)
picks_inside basin policy rule state step turn log holds is picks =
    subst (λ stands. PicksAt rule turn (waiting basin log) stands) (sym holds.open_step)
    (subst (λ t. PicksAt rule t (waiting basin log) (inside step)) is
    (subst (λ waits. PicksAt rule state.turns waits (inside step)) holds.queue picks))

follows_inside : (basin : Draft) (policy : Accepted) (rule : Picking) (state : State) (step turn : ℕ) (log : Log)
    → HoldsWithin basin policy state step state.queue.waiting log
    → state.turns ≡ turn
    → follows_at basin (policy_in basin policy) rule turn log
    ≡ next_of basin (policy_in basin policy) (cells_of basin log) log step (picked_at rule state.turns state.queue.waiting)
follows_inside basin policy rule state step turn log holds is =
    ap (follows_by basin (policy_in basin policy) log (picked_at rule turn (waiting basin log))) holds.open_step
    ∙ ap₂ (λ t waits. next_of basin (policy_in basin policy) (cells_of basin log) log step (picked_at rule t waits)) (sym is) (sym holds.queue)

pub opens_step : (basin : Draft) (policy : Accepted) (old new : State) (step : ℕ) (log : Log) → Shows basin (seen old) log
    → new.run.series ≡ old.run.series
    → new.queue.waiting ≡ all_waiting basin → ((object : ℕ) → count_of_number new.counts object ≡ 0)
    → ((rule : ℕ) → count_of_number new.firings rule ≡ 0)
    → ShowsLooks policy new.rules (opened step ∷ log) → new.run.trace ≡ told old.run.trace (lines (opened step))
    → new.run.closed ≡ old.run.closed → new.run.end ≡ Settled → HoldsWithin basin policy new step new.queue.waiting (opened step ∷ log)
opens_step basin policy old new step log shows series queue counts firings looks trace last end = record {
  open_step = refl;
  shows = record {
    cells = λ cell. ap (λ (s : Series). held s cell) series ∙ shows.cells cell;
    trace = shown_more old.run.trace new.run.trace (trace_of log) (lines (opened step)) trace shows.trace;
    closed_steps = last ∙ shows.closed_steps;
    end = end;
  };
  queue = queue ∙ sym (opens basin log step);
  counts = λ object known. counts object;
  looks = looks;
  firings = λ rule first. firings rule;
}

-- ---- events within a timestep

-- what stands inside a timestep is no fault, whatever is before it
calm_inside : (event : Event) (log : Log) (step : ℕ) → standing (event ∷ log) ≡ inside step → ¬ IsFault event
calm_inside (fault why) log step is = absurd (cc)
calm_inside event log step is = λ faulty. faulty

pub alone : (event : Event) (log : Log) → standing (event ∷ []) ≡ standing (event ∷ log)
alone (placed cell value) log = refl
alone (opened step) log = refl
alone (closed step) log = refl
alone (idle object step looked) log = refl
alone (solved dispatch) log = refl
alone (fired firing) log = refl
alone (fault why) log = refl

inside_more : (step : ℕ) (events : List Event) (event : Event) → AreWithinStep step events → standing (event ∷ []) ≡ inside step
    → AreWithinStep step (events ++ event ∷ [])
inside_more step [] event within at = (at, tt)
inside_more step (first ∷ events) event within at = (within.0, inside_more step events event within.1 at)

-- what an event made of the cells, by what both states show
made_by : (basin : Draft) (old new : State) (event : Event) (log : Log) → Shows basin (seen old) log → Shows basin (seen new) (event ∷ log)
    → (cell : Cell)
    → held new.run.series cell ≡ held_after basin event (held old.run.series) cell
made_by basin old new event log was is cell =
    is.cells cell ∙ ap (λ z. option_or (last_put basin (written_by event) cell) z) (sym (was.cells cell))

pub reached_more : (basin : Draft) (policy : Accepted) (rule : Picking) (turn : ℕ) (start : Log) (old new : State) (step : ℕ)
    → Reached basin policy rule turn start old step
    → ((log : Log) → HoldsWithin basin policy old step old.queue.waiting log
    → GoesByEvent basin policy (picked_at rule old.turns old.queue.waiting) None (held old.run.series) old.noted old.lines old.turns new step log)
    → PicksAt rule old.turns old.queue.waiting (inside step) → Reached basin policy rule turn start new step
reached_more basin policy rule turn start old new step reached goes picks =
    let went = goes reached.now reached.holds in
    let calm = calm_inside went.event reached.now step went.goes.open_step in record {
      events = reached.events ++ went.event ∷ [];
      now = went.event ∷ reached.now;
      leads = leads_more basin (policy_in basin policy) rule turn (opened step ∷ start) reached.events went.event reached.now reached.leads
          (follows_inside basin policy rule old step (turns_after turn reached.events) reached.now reached.holds reached.turned ∙ went.follows)
          (picks_inside basin policy rule old step (turns_after turn reached.events) reached.now reached.holds reached.turned picks);
      turned = went.turned.same calm ∙ ap (λ t. turn_after t went.event) reached.turned ∙ sym (turns_more turn reached.events (went.event ∷ []));
      holds = went.goes;
      inside_step = inside_more step reached.events went.event reached.inside_step (alone went.event reached.now ∙ went.goes.open_step);
      notes = notes_more basin (cells_of basin start) (held old.run.series) (held new.run.series) reached.events went.event old.noted new.noted
          (went.notes calm) went.asks (made_by basin old new went.event reached.now reached.holds.shows went.goes.shows) reached.notes;
      lines_are = lines_more step reached.events went.event old.lines new.lines went.lines_are reached.lines_are;
      can = All-push (λ (event : Event). AreWrites basin (written_by event)) reached.events went.event reached.can went.can;
    }

opened_next : (basin : Draft) (step last : ℕ) (test : Bool) → nat_lt last basin.control.stamps.count ≡ test → step ≡ last + 1
    → step ≤ basin.control.stamps.count
    → (if test then Some (opened (last + 1)) else None) ≡ Some (opened step)
opened_next basin step last true test is exists = ap (λ n. Some (opened n)) (sym is)
opened_next basin step last false test is exists = absurd (grind (arith, nat_tests))

-- ---- the end of a timestep

-- events and one more, as the first of them and what comes behind it
abbrev first_in : List Event → Event → Event
first_in [] last = last
first_in (event ∷ events) last = event

abbrev behind_in : List Event → Event → List Event
behind_in [] last = []
behind_in (event ∷ events) last = events ++ last ∷ []

all_in : (events : List Event) (last : Event) → first_in events last ∷ behind_in events last ≡ events ++ last ∷ []
all_in [] last = refl
all_in (event ∷ events) last = refl

step_from : (step : ℕ) (events : List Event) (last : Event) → AreWithinStep step events → last ≡ closed step
    → IsStepFrom step (first_in events last) (behind_in events last)
step_from step [] last within is = is
step_from step (event ∷ []) last within is = (within.0, is)
step_from step (event ∷ next ∷ events) last within is = (within.0, step_from step (next ∷ events) last within.1 is)

pub trace_after : (events : List Event) (log : Log) → trace_of (log_after events log) ≡ trace_of log ++ flat_map lines events
trace_after [] log = sym (append-nil (trace_of log))
trace_after (event ∷ events) log = trace_after events (event ∷ log) ∙ append_assoc (trace_of log) (lines event) (flat_map lines events)

-- what an engine that notes timesteps has noted of one
pub has_noted : (basin : Draft) (step : ℕ) (old : Log) (events : List Event) (engine : Engine) (noted : Option (List Held))
    (these : Option (List TraceEvent))
    → engine.noted ≡ noted → engine.lines ≡ these → is_some these ≡ is_some noted
    → IfSome noted (λ cells. AreLooked basin (cells_of basin old) events cells × AreOnce cells)
    → IfSome these (λ told. told ≡ lines_of_step step events)
    → CanWriteLines basin (lines_of_step step events) → IsSome noted → HasNoted basin step old events engine
has_noted basin step old events engine None these is told alike notes shows can kept = absurd (cc)
has_noted basin step old events engine (Some cells) None is told alike notes shows can kept = absurd (cc)
has_noted basin step old events engine (Some cells) (Some ls) is told alike notes shows can kept = record {
  cells = cells;
  cells_are = is;
  looked = notes.0;
  once = notes.1;
  lines_are = told ∙ ap Some shows;
  can = can;
}

looked_once : (basin : Draft) (before now : Cells) (events : List Event) (noted : Option (List Held)) → IfSome noted (Notes basin before now events)
    → IfSome noted (λ cells. AreLooked basin before events cells × AreOnce cells)
looked_once basin before now events None notes = tt
looked_once basin before now events (Some noted) notes = (notes.looked, notes.once)

-- a closing is no fault
calm_closed : (step : ℕ) (event : Event) → event ≡ closed step → ¬ IsFault event
calm_closed step event is = subst (λ (e : Event). ¬ IsFault e) (sym is) (λ faulty. faulty)

-- the timestep after the last closed one is opened
pub begins_step : (basin : Draft) (policy : Policy) (chosen : Option ℕ) (log : Log) (step : ℕ) → IsBefore basin step log
    → follows_by basin policy log chosen (standing log) ≡ Some (opened step)
begins_step basin policy chosen log step before =
    ap (follows_by basin policy log chosen) before.rest
    ∙ opened_next basin step before.last (nat_lt before.last basin.control.stamps.count) refl before.next_one before.exists

pub ends_step : (basin : Draft) (policy : Accepted) (rule : Picking) (turn : ℕ) (log : Log) (first old new : State) (step : ℕ) (end : StepEnd)
    → Reached basin policy rule turn log old step
    → ((l : Log) → HoldsWithin basin policy old step old.queue.waiting l
    → GoesByEvent basin policy (picked_at rule old.turns old.queue.waiting) (Some end) (held old.run.series) old.noted old.lines old.turns new step l)
    → PicksAt rule old.turns old.queue.waiting (inside step) → Shows basin (seen first) log → IsBefore basin step log
    → NotesAlike new.noted new.lines new.run.trace → PassesBy basin (policy_in basin policy) rule turn log end (seen new) step
ends_step basin policy rule turn log first old new step end reached goes picks shows before notes =
    let went = goes reached.now reached.holds in
    let code = policy_in basin policy in
    let leads = leads_more basin code rule turn (opened step ∷ log) reached.events went.event reached.now reached.leads
    (follows_inside basin policy rule old step (turns_after turn reached.events) reached.now reached.holds reached.turned ∙ went.follows)
    (picks_inside basin policy rule old step (turns_after turn reached.events) reached.now reached.holds reached.turned picks) in
    record {
      events = opened step ∷ (reached.events ++ went.event ∷ []);
      last = went.event;
      before = reached.now;
      within = reached.holds.open_step;
      leads = (
        begins_step basin code (picked_at rule turn (waiting basin log)) log step before,
        subst (λ stands. PicksAt rule turn (waiting basin log) stands) (sym before.rest) tt,
        leads,
      );
      ends = went.goes.0;
      shows = went.goes.1;
      closes = closes end went leads;
      turned = turned end went;
    }
  where
    -- the turn after all of them
    last_turn : (event : Event) → turns_after turn (opened step ∷ (reached.events ++ event ∷ [])) ≡ turn_after old.turns event
    last_turn event = turns_more turn reached.events (event ∷ []) ∙ ap (λ t. turn_after t event) (sym reached.turned)

    turned : (e : StepEnd) (went : GoesByEvent basin policy (picked_at rule old.turns old.queue.waiting) (Some e) (held old.run.series) old.noted
        old.lines old.turns new step reached.now)
        → CountsTurns e turn new.turns (opened step ∷ (reached.events ++ went.event ∷ []))
    turned e went = record {
      least = rw (last_turn went.event) went.turned.least;
      same = λ is.
          let calm : ¬ IsFault went.event = calm_closed step went.event (subst (λ z. EndsBy z step went.event) is went.goes.0) in
          went.turned.same calm ∙ sym (last_turn went.event);
    }

    closes : (e : StepEnd) (went : GoesByEvent basin policy (picked_at rule old.turns old.queue.waiting) (Some e) (held old.run.series) old.noted
        old.lines old.turns new step reached.now)
        → LeadsBy basin (policy_in basin policy) rule turn (opened step ∷ log) (reached.events ++ went.event ∷ []) (went.event ∷ reached.now)
        → EndsStepBy basin (policy_in basin policy) rule turn e step log (went.event ∷ reached.now) (seen new)
    closes (IsFaulted why) went leads = tt
    closes IsClosed went leads =
        let is = went.goes.0 in
        let events = reached.events ++ went.event ∷ [] in
        let split = all_in reached.events went.event in
        let whole : went.event ∷ reached.now ≡ log_after events (opened step ∷ log) =
        leads_after basin (policy_in basin policy) rule turn (opened step ∷ log) events (went.event ∷ reached.now) leads in
        let calm = calm_closed step went.event is in
        let noted = notes_more basin (cells_of basin log) (held old.run.series) (held new.run.series) reached.events went.event old.noted new.noted
        (went.notes calm) went.asks (made_by basin old new went.event reached.now reached.holds.shows went.goes.1) reached.notes in
        let can = All-push (λ (event : Event). AreWrites basin (written_by event)) reached.events went.event reached.can went.can in record {
          first = first_in reached.events went.event;
          events = behind_in reached.events went.event;
          last = before.last;
          rest = before.rest;
          next_one = before.next_one;
          goes = step_from step reached.events went.event reached.inside_step is;
          leads =
              subst (λ these. LeadsBy basin (policy_in basin policy) rule turn (opened step ∷ log) these (log_after these (opened step ∷ log)))
              (sym split)
              (subst (LeadsBy basin (policy_in basin policy) rule turn (opened step ∷ log) events) whole leads);
          is = whole ∙ ap (λ these. log_after these (opened step ∷ log)) (sym split);
          noted = λ kept. subst (λ these. HasNoted basin step log these (seen new)) (sym split)
              (has_noted basin step log events (seen new) new.noted new.lines refl refl notes.same
              (looked_once basin (cells_of basin log) (held new.run.series) events new.noted noted)
              (lines_more step reached.events went.event old.lines new.lines went.lines_are reached.lines_are) (can_step basin step events can) kept);
        }

pub grows_more : (x y z : Option (List TraceEvent)) → TraceGrows x y → TraceGrows y z → TraceGrows x z
grows_more x y z one other = (one.0 ++ other.0, other.1 ∙ ap (λ t. told t other.0) one.1 ∙ told_more x one.0 other.0)

pub still_more : (one other last : State) → IsStill one other → IsStill other last → IsStill one last
still_more one other last before after =
    record { closed_steps = after.closed_steps ∙ before.closed_steps; end = after.end ∙ before.end }

-- what was done can be taken back, and then what an event did
pub goes_back_more : (basin : Draft) (policy : Accepted) (first old new : State) → CanGoBack first old → KeepsWithin basin policy old new
    → CanGoBack first new
goes_back_more basin policy first old new before keeps = record {
  revocable = keeps.revocable (held first.run.series) before.revocable;
  notes = keeps.notes ∙ before.notes;
  grows = grows_more first.run.trace old.run.trace new.run.trace before.grows keeps.grows;
}

-- memory wants within the timestep
pub unpassed : (basin : Draft) (policy : Accepted) (rule : Picking) (step : ℕ) (old new : State) (result : Result StepEnd NoMemory) (why : NoMemory)
    → IsErrAnd result (λ fault. fault ≡ why) → IsStateOf basin policy new → CanGoBack old new → IsStill old new → IsSome old.noted
    → HasPassed basin policy rule step old new result
unpassed basin policy rule step old new (Ok end) why is made back still kept = absurd is
unpassed basin policy rule step old new (Err want) why is made back still kept = record {
  made = made;
  back = back;
  still = still;
  passes = λ log shows before. tt;
  closed_steps = tt;
  few = tt;
  wants = kept;
}

-- ---- before a timestep is opened

-- a state of which notes and lines are cleared stays one of the run
pub clears : (basin : Draft) (policy : Accepted) (old : State) (noted : Option (List Held)) (lines : Option (List TraceEvent)) → IsStateOf basin policy old
    → is_some noted ≡ is_some old.noted → is_some lines ≡ is_some old.lines
    → IsStateOf basin policy (record {
      run = old.run;
      queue = old.queue;
      rules = old.rules;
      work = old.work;
      counts = old.counts;
      firings = old.firings;
      noted = noted;
      lines = lines;
      turns = old.turns;
    })
clears basin policy old noted lines made kept told = record {
  engine = record {
    valid = made.engine.valid;
    fits = made.engine.fits;
    objects = made.engine.objects;
    rules = made.engine.rules;
    series = made.engine.series;
    closed_steps = made.engine.closed_steps;
    notes = alike_on old.noted noted old.lines lines old.run.trace old.run.trace kept told refl made.engine.notes;
  };
  keeps = made.keeps ∙ sym kept;
  counts = made.counts;
  firings = made.firings;
}

-- an engine that opens no timestep for want of memory shows what it showed
pub unopened : (basin : Draft) (policy : Accepted) (rule : Picking) (step : ℕ) (old new : Engine) (result : Result StepEnd NoMemory)
    (why : NoMemory) → IsErrAnd result (λ fault. fault ≡ why) → IsEngineOf basin policy new
    → ((log : Log) → Shows basin old log → Shows basin new log) → IsUntold new → KeepsOn old new
    → RunsStepBy basin policy rule step old new result
unopened basin policy rule step old new (Ok end) why is made shows untold kept = absurd is
unopened basin policy rule step old new (Err want) why is made shows untold kept = record {
  made = made;
  passes = λ log was before. tt;
  before = shows;
  untold = untold;
  kept = kept;
  closed_steps = tt;
  few = tt;
}

-- no timestep is counted where memory wants
pub none_counted : (result : Result StepEnd NoMemory) (why : NoMemory) → IsErrAnd result (λ fault. fault ≡ why) → steps_of result ≡ 0
none_counted (Ok end) why is = absurd is
none_counted (Err want) why is = refl

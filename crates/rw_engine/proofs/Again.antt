-- Passing a timestep again, by its record.
use Rattle.rw_engine.proofs.Common.{Cell, Cells, Draft, Event, Leads, List, Log, None, Option, Policy, Some, State, [], ap, append_assoc, cells_of}
use Rattle.rw_engine.proofs.Common.{closed, held, last_put, length, lines, opened, option_map, option_or, refl, rests, seen, standing, subst, sym, trace_of, ℕ}
use Rattle.rw_engine.proofs.Common.{◌++◌, ◌+◌, ◌∙◌, ◌∷◌, ◌≡◌, ◌≤◌}
use Rattle.std.specs.Prelude.{Contains, Err, IfSome, IsErrAnd, Ok, Result, is_some, ◌⊎◌}
use Rattle.std.specs.List.{flat_map}
use Rattle.rw_base.proofs.Common.{arith, inl, inr}
use Rattle.rw_base.specs.declared.memory.NoMemory.{NoMemory}
use Rattle.rw_model.specs.Turn.{IsStep}
use Rattle.rw_run.specs.Frame.{IsFramed, IsStepFrom, log_after}
use Rattle.rw_run.specs.Runs.{inside}
use Rattle.rw_run.specs.Waiting.{first_waiting}
use Rattle.rw_run.specs.Step.{reached_by}
use Rattle.rw_run.specs.Timestep.{AreLooked, IsTimestep}
use Rattle.rw_run.specs.declared.held.Held.{Held}
use Rattle.rw_run.specs.declared.trace.TraceEvent.{TraceEvent}
use Rattle.rw_record.specs.Noted.{AreHeld, AreOnce, cells_noted, noted_after, with_noted}
use Rattle.rw_record.specs.Record.{StepRecord}
use Rattle.rw_record.proofs.Cells.{map_from, map_of}
use Rattle.rw_record.proofs.Noting.{IsNew, new_in, old_or, once}
use Rattle.rw_record.proofs.Taking.{opened as nothing_noted}
use Rattle.rw_engine.specs.Passing.{Replays, ReplaysKept}
use Rattle.rw_engine.specs.Records.{CanWriteLines, IsUntold, puts_in}
use Rattle.rw_engine.specs.Shows.{CanReplay}
use Rattle.rw_engine.specs.State.{HasReplayed, IsSoundState, cleared}
use Rattle.rw_engine.proofs.Records.{held_again}
use Rattle.rw_engine.proofs.Steps.{alone, begins_step, has_noted, trace_after}
use Rattle.rw_engine.proofs.Traces.{alike_on, shown_more}

-- the closing of a timestep, and what stands before it
pub record Closing (step : ℕ) (whole : Log) : Type 0 where
  pub before : Log
  pub is : whole ≡ closed step ∷ before
  pub within : standing before ≡ inside step

pub closing : (step : ℕ) (event : Event) (events : List Event) (log : Log) → IsStepFrom step event events → standing log ≡ inside step
    → Closing step (log_after (event ∷ events) log)
closing step event [] log goes at = record { before = log; is = ap (λ e. e ∷ log) goes; within = at }
closing step event (next ∷ events) log goes at = closing step next events (event ∷ log) goes.1 (sym (alone event log) ∙ goes.0)

-- what is noted where the cells of a record are noted anew, as they are held before its timestep again
looked_again : (basin : Draft) (before was now : Cells) (events : List Event) (looked : List Held) → AreLooked basin was events looked
    → ((cell : Cell) → now cell ≡ before cell) → AreLooked basin before events (noted_after now [] (cells_noted looked))
looked_again basin before was now events looked are same one = (to, from)
  where
    of_new : IsNew now [] (cells_noted looked) one → Contains (flat_map (reached_by basin) events) one.cell × (one.content ≡ before one.cell)
    of_new new =
        let from_record = map_from (λ (held : Held). held.cell) looked one.cell new.has in (
          subst (Contains (flat_map (reached_by basin) events)) from_record.is ((are from_record.at).0 from_record.has).0,
          new.is ∙ same one.cell,
        )

    by : Contains [] one ⊎ IsNew now [] (cells_noted looked) one
        → Contains (flat_map (reached_by basin) events) one.cell × (one.content ≡ before one.cell)
    by (inl none) = absurd (omega (arith, none.1))
    by (inr new) = of_new new

    to : Contains (noted_after now [] (cells_noted looked)) one
        → Contains (flat_map (reached_by basin) events) one.cell × (one.content ≡ before one.cell)
    to has = by (old_or now [] (cells_noted looked) one has)

    from : Contains (flat_map (reached_by basin) events) one.cell × (one.content ≡ before one.cell)
        → Contains (noted_after now [] (cells_noted looked)) one
    from has =
        let it : Held = record { cell = one.cell; content = was one.cell } in
        new_in now [] (cells_noted looked) one (record {
          fresh = refl;
          has = map_of (λ (held : Held). held.cell) looked it ((are it).1 (has.0, refl));
          is = has.1 ∙ sym (same one.cell);
        })

noted_again : (basin : Draft) (before was now : Cells) (events : List Event) (looked : List Held) (old new : Option (List Held))
    → new ≡ with_noted now (cells_noted looked) (cleared old)
    → AreLooked basin was events looked → ((cell : Cell) → now cell ≡ before cell)
    → IfSome new (λ noted. AreLooked basin before events noted × AreOnce noted)
noted_again basin before was now events looked old new is are same =
    subst (λ found. IfSome found (λ noted. AreLooked basin before events noted × AreOnce noted)) (sym is) (by old)
  where
    by : (found : Option (List Held)) → IfSome (with_noted now (cells_noted looked) (cleared found))
        (λ noted. AreLooked basin before events noted × AreOnce noted)
    by None = tt
    by (Some found) = (
      looked_again basin before was now events looked are same,
      once now [] (cells_noted looked) (nothing_noted basin before).once,
    )

pub sound_again : (basin : Draft) (kept : StepRecord) (old new : State) (result : Result (Unit {0}) NoMemory) → HasReplayed basin kept old new result
    → IsSoundState old → IsSoundState new
sound_again basin kept old new result has sound = record {
  counts = ap length has.counts ∙ sound.counts ∙ sym (ap (λ (q : _). q.objects) has.queue);
  firings = ap length has.firings ∙ sound.firings ∙ sym (ap (λ (r : _). length r.agenda.rules) has.rules);
  keeps = ap (λ (w : _). w.keeps) has.work ∙ sound.keeps ∙ sym has.notes;
}

-- a record's timestep, by what is known of timesteps that hold alike what they looked at
pub replays : (basin : Draft) (kept : StepRecord) (old new : State) (result : Result (Unit {0}) NoMemory)
    → ((basin : Draft) (policy : Policy) (step last : ℕ) (one other : Log) (first : Event) (events : List Event) (looked : List Held)
    → IsFramed policy → IsTimestep basin policy step one first events → AreLooked basin (cells_of basin one) (first ∷ events) looked
    → ((held : Held) → Contains looked held → cells_of basin other held.cell ≡ held.content)
    → standing other ≡ rests last → step ≡ last + 1 → IsTimestep basin policy step other first events)
    → IsStep basin kept.step → CanReplay basin (seen old) → HasReplayed basin kept old new result → Replays basin kept (seen old) (seen new) result
replays basin kept old new (Err want) again step can has = record {
  made = λ policy made. record {
    valid = made.valid;
    fits = made.fits;
    objects = ap (λ (q : _). q.objects) has.queue ∙ made.objects;
    rules = rw has.rules made.rules;
    series = has.made;
    closed_steps = rw has.unchanged made.closed_steps;
    notes = alike_on old.noted new.noted old.lines new.lines old.run.trace new.run.trace has.notes has.keeps_lines has.keeps_trace made.notes;
  };
  passes = λ policy log framed records shows before alike. tt;
  before = λ log shows. rw has.unchanged (record { cells = shows.cells; trace = shows.trace; closed_steps = shows.closed_steps; end = shows.end });
  untold = has.untold;
  keeps = record { trace = has.keeps_trace; noted = has.notes };
  closed_steps = tt;
}
replays basin kept old new (Ok done) again step can has = record {
  made = λ policy made. record {
    valid = made.valid;
    fits = made.fits;
    objects = ap (λ (q : _). q.objects) has.queue ∙ made.objects;
    rules = rw has.rules made.rules;
    series = has.made;
    closed_steps = subst (λ n. n ≤ basin.control.stamps.count) (sym has.ends.1) step.last;
    notes = alike_on old.noted new.noted old.lines new.lines old.run.trace new.run.trace has.notes has.keeps_lines has.keeps_trace made.notes;
  };
  passes = λ policy log framed records shows before alike.
      let first = records.first in
      let events = records.events in
      let own : AreHeld (cells_of basin log) kept.looked = λ one near. sym (shows.cells one.cell) ∙ alike one near in
      let timestep =
      again basin policy kept.step before.last records.old log first events kept.looked framed records.timestep records.these.looked own
      before.rest before.next_one in
      let ends = closing kept.step first events (opened kept.step ∷ log) timestep.goes refl in
      let told_lines = records.these.lines_are in
      let whole : Log = log_after (first ∷ events) (opened kept.step ∷ log) in
      let shown : IfSome new.run.trace (λ told. told ≡ trace_of whole) =
      subst (λ told. IfSome new.run.trace (λ these. these ≡ told))
      (ap (λ told. trace_of log ++ told) told_lines
      ∙ sym (trace_after (first ∷ events) (opened kept.step ∷ log)
      ∙ append_assoc (trace_of log) (lines (opened kept.step)) (flat_map lines (first ∷ events))))
      (shown_more old.run.trace new.run.trace (trace_of log) kept.lines has.trace shows.trace) in
      record {
        events = opened kept.step ∷ first ∷ events;
        last = closed kept.step;
        before = ends.before;
        leads = (
          begins_step basin policy (first_waiting basin log) log kept.step before,
          subst (Leads basin policy (opened kept.step ∷ log) (first ∷ events)) ends.is timestep.leads,
        );
        within = ends.within;
        ends = refl;
        shows = record {
          cells = λ cell. has.cells cell
              ∙ ap (λ told. option_or (last_put basin (puts_in told) cell) (held old.run.series cell)) told_lines
              ∙ ap (option_or (last_put basin (puts_in (flat_map lines (first ∷ events))) cell)) (shows.cells cell)
              ∙ held_again basin kept.step first events (opened kept.step ∷ log) cell timestep.goes
              ∙ ap (λ l. cells_of basin l cell) ends.is;
          trace = subst (λ l. IfSome new.run.trace (λ told. told ≡ trace_of l)) ends.is shown;
          closed_steps = has.ends.1;
          end = has.ends.0;
        };
        closes = record {
          first = first;
          events = events;
          timestep = timestep;
          is = sym ends.is;
          noted = λ keeps. has_noted basin kept.step log (first ∷ events) (seen new) new.noted new.lines refl refl
              (has.keeps_lines ∙ can.notes.same ∙ sym has.notes)
              (noted_again basin (cells_of basin log) (cells_of basin records.old) (held old.run.series) (first ∷ events) kept.looked old.noted
              new.noted has.noted
              records.these.looked shows.cells)
              (subst (λ told. IfSome new.lines (λ these. these ≡ told)) told_lines has.lines_are)
              (subst (CanWriteLines basin) told_lines records.these.can) keeps;
        };
      };
  before = λ log shows. tt;
  untold = tt;
  keeps = record { trace = has.keeps_trace; noted = has.notes };
  closed_steps = has.ends.1;
}

-- ---- with no timestep noted behind it

pub kept_fails : (basin : Draft) (kept : StepRecord) (old new : State) (want : NoMemory) → Replays basin kept (seen old) (seen new) (Err want)
    → ReplaysKept basin kept (seen old) (seen new) (Err want)
kept_fails basin kept old new want replays = record {
  made = replays.made;
  passes = λ policy log framed records shows before alike. tt;
  before = replays.before;
  untold = replays.untold;
  keeps = replays.keeps;
  closed_steps = tt;
}

pub kept_wants : (basin : Draft) (kept : StepRecord) (old new : State) (result : Result (Unit {0}) NoMemory) (P : NoMemory → Type 0)
    → IsErrAnd result P
    → ((want : NoMemory) → ReplaysKept basin kept (seen old) (seen new) (Err want)) → ReplaysKept basin kept (seen old) (seen new) result
kept_wants basin kept old new (Ok done) P wants fails = absurd wants
kept_wants basin kept old new (Err want) P wants fails = fails want

-- a state that would have noted it too
abbrev pub noting : StepRecord → State → State → State
noting kept old new = record new {
  noted = with_noted (held old.run.series) (cells_noted kept.looked) (cleared old.noted);
  lines = option_map (λ told. kept.lines) old.lines;
}

pub noting_some : (cells : Cells) (more : List Cell) (found : Option (List Held)) → is_some (with_noted cells more (cleared found)) ≡ is_some found
noting_some cells more None = refl
noting_some cells more (Some noted) = refl

pub telling_some : (told : List TraceEvent) (lines : Option (List TraceEvent)) → is_some (option_map (λ these. told) lines) ≡ is_some lines
telling_some told None = refl
telling_some told (Some lines) = refl

pub telling : (told : List TraceEvent) (lines : Option (List TraceEvent)) → IfSome (option_map (λ these. told) lines) (λ these. these ≡ told)
telling told None = tt
telling told (Some lines) = refl

-- what is so of that one is so of one that hasn't
pub kept_passes : (basin : Draft) (kept : StepRecord) (old new : State) (done : Unit {0})
    → Replays basin kept (seen old) (seen (noting kept old new)) (Ok done)
    → is_some new.noted ≡ is_some old.noted → is_some new.lines ≡ is_some old.lines → is_some new.run.trace ≡ is_some old.run.trace
    → IsUntold (seen new) → ReplaysKept basin kept (seen old) (seen new) (Ok done)
kept_passes basin kept old new done replays notes keeps_lines keeps_trace untold = record {
  made = λ policy made.
      let also = replays.made policy made in
      record {
        valid = also.valid;
        fits = also.fits;
        objects = also.objects;
        rules = also.rules;
        series = also.series;
        closed_steps = also.closed_steps;
        notes = alike_on old.noted new.noted old.lines new.lines old.run.trace new.run.trace notes keeps_lines keeps_trace made.notes;
      };
  passes = λ policy log framed records shows before alike.
      let also = replays.passes policy log framed records shows before alike in
      record {
        events = also.events;
        last = also.last;
        before = also.before;
        leads = also.leads;
        within = also.within;
        ends = also.ends;
        shows = record {
          cells = also.shows.cells;
          trace = also.shows.trace;
          closed_steps = also.shows.closed_steps;
          end = also.shows.end;
        };
      };
  before = λ log shows. tt;
  untold = untold;
  keeps = record { trace = keeps_trace; noted = notes };
  closed_steps = replays.closed_steps;
}

-- A timestep taken back, and an input given.
use Rattle.rw_engine.proofs.Common.{Bool, Cell, Cells, Draft, Engine, Event, HoldsAll, IsHeldIn, IsSeriesOf, Leads, List, Log, None, Option, Policy}
use Rattle.rw_engine.proofs.Common.{Series, Settled, Sets, Some, State, [], ap, append_assoc, arith, cells_of, closed, false, fault, held}
use Rattle.rw_engine.proofs.Common.{if◌then◌else◌, inside, input_content, length, lines, nat_le, nat_lt, next_of, none-some, opened, option_map, refl}
use Rattle.rw_engine.proofs.Common.{rests, same_Some, seen, standing, subst, sym, take, trace_of, true, written_by, ℕ, ℤ, ◌++◌, ◌+◌, ◌-◌, ◌∙◌, ◌∷◌}
use Rattle.rw_engine.proofs.Common.{◌≡◌}
use Rattle.std.specs.Prelude.{Contains, IfSome, IsTrue, is_some}
use Rattle.std.specs.List.{flat_map}
use Rattle.std.proofs.Math.ListN.{length-append}
use Rattle.std.proofs.Math.Seq.{take-append_seam}
use Rattle.std.proofs.lemmas.List.Elements.{Contains-append_left, Contains-append_right}
use Rattle.rw_model.specs.Links.{IsBetween, bounds_in}
use Rattle.rw_model.specs.declared.content.Content.{Content}
use Rattle.rw_firing.specs.Fire.{Fire}
use Rattle.rw_series.specs.Series.{is_shared}
use Rattle.rw_series.proofs.Bounds.{bounds-shared}
use Rattle.rw_run.specs.Dispatch.{dispatched}
use Rattle.rw_run.specs.Frame.{log_after}
use Rattle.rw_run.specs.Next.{after_objects, dispatches, ended, firing_of, firings, first_due}
use Rattle.rw_run.specs.RunOf.{last_closed}
use Rattle.rw_run.specs.Runs.{Standing, follows_by, over}
use Rattle.rw_run.specs.Step.{reached_by}
use Rattle.rw_run.specs.Timestep.{AreLooked, IsTimestep}
use Rattle.rw_run.specs.Trace.{lines_in}
use Rattle.rw_run.specs.Waiting.{first_waiting}
use Rattle.rw_run.specs.declared.fault.RunFault.TheVariants.{ObjectLimit, RuleLimit}
use Rattle.rw_run.specs.declared.held.Held.{Held}
use Rattle.rw_run.specs.declared.trace.TraceEvent.{TraceEvent}
use Rattle.rw_run.proofs.Placed.{settled_at_rest}
use Rattle.rw_record.specs.Back.{AreCellsOf}
use Rattle.rw_record.specs.Noted.{is_noted}
use Rattle.rw_record.specs.Notes.{CanTakeBack}
use Rattle.rw_record.specs.Record.{StepRecord}
use Rattle.rw_record.proofs.Backing.{cells_held}
use Rattle.rw_record.proofs.Noting.{noted_of}
use Rattle.rw_record.proofs.Taking.{all_put}
use Rattle.rw_engine.specs.Passing.{ComesBack, GivesInput, TakesBack}
use Rattle.rw_engine.specs.Records.{RecordsThese, lines_of_step}
use Rattle.rw_engine.specs.Shows.{CanReplay, CanShow, NotesAlike, Shows}
use Rattle.rw_engine.specs.State.{IsSoundState, WritesAsked}
use Rattle.rw_engine.proofs.Again.{closing}
use Rattle.rw_engine.proofs.Notings.{dispatch_asks, firing_asks, none_written, written_reached}
use Rattle.rw_engine.proofs.Steps.{trace_after}
use Rattle.rw_engine.proofs.Traces.{alike_on, short_some}

-- ---- what follows writes what it asked for

either_asks : (test : Bool) (one other : Event) → WritesAsked one → WritesAsked other → WritesAsked (if test then one else other)
either_asks true one other first second = first
either_asks false one other first second = second

fires_asks : (basin : Draft) (cells : Cells) (rule step : ℕ) (found : Option Fire) (event : Event)
    → option_map (λ (fire : Fire). ended basin cells rule step fire fire.end) found ≡ Some event → WritesAsked event
fires_asks basin cells rule step None event is = absurd (none-some _ is)
fires_asks basin cells rule step (Some fire) event is = subst WritesAsked (same_Some _ _ is) (firing_asks basin cells rule step fire fire.end)

limit_asks : (test : Bool) (limit : Event) (found : Option Event) (event : Event) → WritesAsked limit → (found ≡ Some event → WritesAsked event)
    → (if test then Some limit else found) ≡ Some event → WritesAsked event
limit_asks true limit found event first second is = subst WritesAsked (same_Some _ _ is) first
limit_asks false limit found event first second is = second is

due_asks : (basin : Draft) (policy : Policy) (cells : Cells) (log : Log) (step : ℕ) (due : Option ℕ) (event : Event)
    → after_objects basin policy cells log step due ≡ Some event → WritesAsked event
due_asks basin policy cells log step None event is = subst WritesAsked (same_Some _ _ is) (none_written (closed step) refl)
due_asks basin policy cells log step (Some rule) event is =
    let limit : Event = fault (RuleLimit (record { 0 = rule }) (record { 0 = step }) (firings log rule)) in
    limit_asks (nat_le basin.control.rule_limit (firings log rule)) limit (firing_of basin policy cells rule step) event (none_written limit refl)
    (fires_asks basin cells rule step (policy.fire rule step (λ cell. option_map (λ (content : Content). content.value) (cells cell))) event) is

next_asks : (basin : Draft) (policy : Policy) (cells : Cells) (log : Log) (step : ℕ) (chosen : Option ℕ) (event : Event)
    → next_of basin policy cells log step chosen ≡ Some event → WritesAsked event
next_asks basin policy cells log step None event is = due_asks basin policy cells log step (first_due basin policy cells log) event is
next_asks basin policy cells log step (Some object) event is =
    let limit : Event = fault (ObjectLimit (record { 0 = object }) (record { 0 = step }) (dispatches log object)) in
    subst WritesAsked (same_Some _ _ is)
    (either_asks (nat_le basin.control.object_limit (dispatches log object)) limit (dispatched basin cells object step) (none_written limit refl)
    (dispatch_asks basin cells object step))

opens_asks : (test : Bool) (step : ℕ) (event : Event) → (if test then Some (opened step) else None) ≡ Some event → WritesAsked event
opens_asks true step event is = subst WritesAsked (same_Some _ _ is) (none_written (opened step) refl)
opens_asks false step event is = absurd (none-some _ is)

pub follows_asks : (basin : Draft) (policy : Policy) (log : Log) (chosen : Option ℕ) (at : Standing) (event : Event)
    → follows_by basin policy log chosen at ≡ Some event → WritesAsked event
follows_asks basin policy log chosen (rests step) event is = opens_asks (nat_lt step basin.control.stamps.count) (step + 1) event is
follows_asks basin policy log chosen (inside step) event is = next_asks basin policy (cells_of basin log) log step chosen event is
follows_asks basin policy log chosen over event is = absurd (none-some _ is)

-- ---- the cells before a timestep

-- where all that events reach is noted, what they put can be taken back
can_back : (basin : Draft) (policy : Policy) (before : Cells) (noted : List Held) (events : List Event) (log new : Log)
    → Leads basin policy log events new
    → ((cell : Cell) → Contains (flat_map (reached_by basin) events) cell → IsTrue (is_noted noted cell))
    → CanTakeBack before (cells_of basin log) noted → CanTakeBack before (cells_of basin (log_after events log)) noted
can_back basin policy before noted [] log new leads all can = can
can_back basin policy before noted (event ∷ events) log new leads all can =
    let rest : List Cell = flat_map (reached_by basin) events in
    let asks = follows_asks basin policy log (first_waiting basin log) (standing log) event leads.0 in
    let put = all_put basin before (cells_of basin log) noted (written_by event) can
    (λ cell has. all cell (Contains-append_left (reached_by basin event) rest cell
    (written_reached basin event (reached_by basin event) (λ calm. refl) asks cell has))) in
    can_back basin policy before noted events (event ∷ log) new leads.1
    (λ cell has. all cell (Contains-append_right (reached_by basin event) rest cell has))
    (record { held = put.held; same = λ cell none. put.same cell none })

-- so a record of a timestep tells what its cells held before it
pub taken : (basin : Draft) (policy : Policy) (step : ℕ) (log : Log) (first : Event) (events : List Event) (looked : List Held)
    → IsTimestep basin policy step log first events
    → AreLooked basin (cells_of basin log) (first ∷ events) looked
    → CanTakeBack (cells_of basin log) (cells_of basin (log_after (first ∷ events) (opened step ∷ log))) looked
taken basin policy step log first events looked timestep are =
    can_back basin policy (cells_of basin log) looked (first ∷ events) (opened step ∷ log) (log_after (first ∷ events) (opened step ∷ log))
    timestep.leads
    (λ cell has. noted_of looked (record { cell = cell; content = cells_of basin log cell })
    ((are (record { cell = cell; content = cells_of basin log cell })).1 (has, refl)))
    (record { held = λ one has. sym ((are one).0 has).1; same = λ cell none. refl })

-- ---- the lines before it

fewer : {A : Type 0} (xs ys : List A) → take (length (xs ++ ys) - length ys) (xs ++ ys) ≡ xs
fewer xs ys =
    let many : length (xs ++ ys) - length ys ≡ length xs = (let all = length-append xs ys in omega (arith, all)) in
    ap (λ n. take n (xs ++ ys)) many ∙ take-append_seam xs ys

lines_back : (trace : Option (List TraceEvent)) (shown more told : List TraceEvent) → told ≡ more → IfSome trace (λ these. these ≡ shown ++ more)
    → IfSome (option_map (take (length (lines_in trace) - length told)) trace) (λ these. these ≡ shown)
lines_back None shown more told same is = tt
lines_back (Some these) shown more told same is =
    ap (λ all. take (length all - length told) all) (is ∙ ap (λ last. shown ++ last) (sym same)) ∙ fewer shown told

-- ---- all of it

-- cells, lines and the end are put back, and who waits and the rules are what they were
pub record HasTakenBack (basin : Draft) (kept : StepRecord) (old new : State) : Type 0 where
  pub rules : new.rules ≡ old.rules
  pub queue : new.queue ≡ old.queue
  pub work : new.work ≡ old.work
  pub counts : new.counts ≡ old.counts
  pub firings : new.firings ≡ old.firings
  pub notes : is_some new.noted ≡ is_some old.noted
  pub keeps_lines : is_some new.lines ≡ is_some old.lines
  pub made : IsSeriesOf basin new.run.series
  pub back : (before : Cells) → AreCellsOf basin before → CanTakeBack before (held old.run.series) kept.looked
      → (cell : Cell) → held new.run.series cell ≡ before cell
  pub trace : new.run.trace ≡ option_map (take (length (lines_in old.run.trace) - length kept.lines)) old.run.trace
  pub closed_steps : new.run.closed ≡ kept.step - 1
  pub end : new.run.end ≡ Settled

pub sound_back : (basin : Draft) (kept : StepRecord) (old new : State) → HasTakenBack basin kept old new → IsSoundState old → IsSoundState new
sound_back basin kept old new has sound = record {
  counts = ap length has.counts ∙ sound.counts ∙ sym (ap (λ (q : _). q.objects) has.queue);
  firings = ap length has.firings ∙ sound.firings ∙ sym (ap (λ (r : _). length r.agenda.rules) has.rules);
  keeps = ap (λ (w : _). w.keeps) has.work ∙ sound.keeps ∙ sym has.notes;
}

module _ (basin : Draft) (kept : StepRecord) (old new : State) (can : CanReplay basin (seen old)) (has : HasTakenBack basin kept old new) where
  same_trace : is_some new.run.trace ≡ is_some old.run.trace
  same_trace = ap is_some has.trace ∙ short_some old.run.trace (length (lines_in old.run.trace) - length kept.lines)

  same_notes : NotesAlike old.noted old.lines old.run.trace → NotesAlike new.noted new.lines new.run.trace
  same_notes = alike_on old.noted new.noted old.lines new.lines old.run.trace new.run.trace has.notes has.keeps_lines same_trace

  module _ (policy : Policy) (log : Log) (first : Event) (events : List Event) (timestep : IsTimestep basin policy kept.step log first events)
      (these : RecordsThese basin kept.step log (first ∷ events) kept) (could : CanShow basin kept.step log)
      (shows : Shows basin (seen old) (log_after (first ∷ events) (opened kept.step ∷ log))) where
    abbrev whole : Log
    whole = log_after (first ∷ events) (opened kept.step ∷ log)

    cells_back : HoldsAll basin new.run.series log
    cells_back =
        let is = taken basin policy kept.step log first events kept.looked timestep these.looked in
        has.back (cells_of basin log) could.cells (record { held = is.held; same = λ cell none. shows.cells cell ∙ is.same cell none })

    series_back : IsHeldIn basin new.run.series
    series_back = record { made = has.made; bounded = λ cell content known is. could.bounded cell content known (sym (cells_back cell) ∙ is) }

    closed_back : new.run.closed ≡ last_closed log
    closed_back = let is = has.closed_steps in let step = could.closed_steps in omega (arith, is, step)

    closed_last : last_closed whole ≡ kept.step
    closed_last = ap last_closed (closing kept.step first events (opened kept.step ∷ log) timestep.goes refl).is

    told_whole : trace_of whole ≡ trace_of log ++ lines_of_step kept.step (first ∷ events)
    told_whole =
        trace_after (first ∷ events) (opened kept.step ∷ log)
        ∙ append_assoc (trace_of log) (lines (opened kept.step)) (flat_map lines (first ∷ events))

    trace_back : IfSome new.run.trace (λ told. told ≡ trace_of log)
    trace_back =
        subst (λ trace. IfSome trace (λ told. told ≡ trace_of log)) (sym has.trace)
        (lines_back old.run.trace (trace_of log) (lines_of_step kept.step (first ∷ events)) kept.lines these.lines_are
        (subst (λ all. IfSome old.run.trace (λ told. told ≡ all)) told_whole shows.trace))

    pub comes_back : ComesBack basin log (seen old) (seen new)
    comes_back = record {
      made = λ accepted made. record {
        valid = made.valid;
        fits = made.fits;
        objects = ap (λ (q : _). q.objects) has.queue ∙ made.objects;
        rules = rw has.rules made.rules;
        series = series_back;
        closed_steps =
            let was = made.closed_steps in
            let is = closed_back in
            let last = shows.closed_steps ∙ closed_last in
            let step = could.closed_steps in
            omega (arith, was, is, last, step);
        notes = same_notes made.notes;
      };
      can = record { series = series_back; notes = same_notes can.notes };
      shows = record {
        cells = cells_back;
        trace = trace_back;
        closed_steps = closed_back;
        end = has.end ∙ sym (settled_at_rest log timestep.last timestep.rest);
      };
    }

  pub takes_back : TakesBack basin kept (seen old) (seen new)
  takes_back = record { back = comes_back; keeps = record { trace = same_trace; noted = has.notes } }

-- a log can be shown again that an engine shows which is made for the basin
pub can_show : (basin : Draft) (engine : Engine) (step : ℕ) (log : Log) → IsHeldIn basin engine.series → Shows basin engine log
    → step ≡ engine.closed + 1
    → CanShow basin step log
can_show basin engine step log held_in shows next = record {
  cells = record {
    shared = λ cell other known shared. sym (shows.cells cell) ∙ held_in.made.shared cell other known shared ∙ shows.cells other;
    none = λ cell unknown. sym (shows.cells cell) ∙ (cells_held basin engine.series held_in.made).none cell unknown;
  };
  bounded = λ cell content known is. held_in.bounded cell content known (shows.cells cell ∙ is);
  closed_steps = next ∙ ap (λ last. last + 1) shows.closed_steps;
}

-- ---- an input

-- a content within bounds, or nothing, leaves what is held within bounds
bounded_by : (basin : Draft) (cell other : Cell) (value : Option ℤ) (content : Content) (was : Option Content)
    → IfSome value (λ value. IsBetween (bounds_in basin.objects basin.links basin.bounds cell.slot.0) value)
    → (was ≡ Some content → IsBetween (bounds_in basin.objects basin.links basin.bounds other.slot.0) content.value)
    → (shared : Bool) → is_shared basin cell other ≡ shared → (if shared then option_map input_content value else was) ≡ Some content
    → IsBetween (bounds_in basin.objects basin.links basin.bounds other.slot.0) content.value
bounded_by basin cell other None content was within before true shared is = absurd (none-some _ is)
bounded_by basin cell other (Some value) content was within before true shared is =
    subst (λ (c : Content). IsBetween (bounds_in basin.objects basin.links basin.bounds other.slot.0) c.value) (same_Some _ _ is)
    (subst (λ bounds. IsBetween bounds value) (bounds-shared basin cell other shared) within)
bounded_by basin cell other value content was within before false apart is = before is

pub gives : (basin : Draft) (cell : Cell) (value : Option ℤ) (old new : State) (series : Series)
    → new ≡ record old { run = record old.run { series = series } }
    → IfSome value (λ value. IsBetween (bounds_in basin.objects basin.links basin.bounds cell.slot.0) value) → CanReplay basin (seen old)
    → IsSeriesOf basin series → Sets basin cell (option_map input_content value) old.run.series series
    → GivesInput basin cell value (seen old) (seen new)
gives basin cell value old new series is within can made sets = rw is (record {
  made = λ policy engine. record {
    valid = engine.valid;
    fits = engine.fits;
    objects = engine.objects;
    rules = engine.rules;
    series = in_bounds;
    closed_steps = engine.closed_steps;
    notes = engine.notes;
  };
  can = record { series = in_bounds; notes = can.notes };
  cells = sets;
  trace = refl;
  noted = refl;
  closed_steps = refl;
  end = refl;
})
  where
    in_bounds : IsHeldIn basin series
    in_bounds = record {
      made = made;
      bounded = λ other content known holds.
          bounded_by basin cell other value content (held old.run.series other) within (can.series.bounded other content known)
          (is_shared basin cell other) refl (sym (sets other) ∙ holds);
    }

-- One event of the engine, over the log that its state holds.
use Rattle.std.specs.Prelude.{is_some}
use Rattle.rw_engine.proofs.Common.{Bool, Cell, Cells, DispatchEnd, Draft, Engine, Event, Fault, GoesToState, HoldsWithin, HasCount, List, Log, Look}
use Rattle.rw_engine.proofs.Common.{None, Option, Policy, Put, RunFault, Settled, Shows, Some, State, [], ap, arith, asked_for, cells_of, count_if}
use Rattle.rw_engine.proofs.Common.{count_of_number, dispatched, dispatches, end_of, ended_by, ending, event_of, false, fault, fault_by, held}
use Rattle.rw_engine.proofs.Common.{held_after, idles, if◌then◌else◌, inside, last_closed, last_put, lines, lines_by, nat_le, nat_tests, next_of}
use Rattle.rw_engine.proofs.Common.{none-some, option_or, queued_after, raised, refl, same_Some, seen, slice_index_or, solves, standing, subst, sym}
use Rattle.rw_engine.proofs.Common.{trace_of, true, waiting, written_by, ℕ, ◌++◌, ◌-◌, ◌<◌, ◌==◌, ◌∙◌, ◌∷◌, ◌≡◌}
use Rattle.rw_run.specs.declared.fault.RunFault.TheVariants.{ObjectLimit}
use Rattle.rw_dispatch.specs.Answer.{Ends, answer_of}
use Rattle.rw_dispatch.specs.declared.dispatch_end.DispatchEnd.TheVariants.{Idle as IsIdle, Solved as IsSolved, Conflict as IsConflict}
use Rattle.rw_dispatch.specs.declared.dispatch_end.DispatchEnd.TheVariants.{OutOfRange as IsOutOfRange}
use Rattle.rw_run.specs.Trace.{told as with_lines}
use Rattle.rw_agenda.specs.Agenda.{Entry, unfired}
use Rattle.rpl_verify.specs.Verified.{Accepted}
use Rattle.rw_run.specs.Next.{firings, last_looks}
use Rattle.rw_dispatch.specs.Queue.{IsTaken}
use Rattle.rw_engine.proofs.Raises.{raised_at}
use Rattle.rw_engine.proofs.Traces.{shown_more}

-- ---- which event follows

-- the object that is chosen is dispatched, below the limit
pub next_is : (basin : Draft) (policy : Policy) (cells : Cells) (step : ℕ) (log : Log) (object : ℕ)
    → cells ≡ cells_of basin log → dispatches log object < basin.control.object_limit
    → next_of basin policy (cells_of basin log) log step (Some object) ≡ Some (dispatched basin cells object step)
next_is basin policy cells step log object same below =
    ap Some (often (nat_le basin.control.object_limit (dispatches log object)) refl ∙ ap (λ z. dispatched basin z object step) (sym same))
  where
    often : (reached : Bool) → nat_le basin.control.object_limit (dispatches log object) ≡ reached
        → (if reached then fault (ObjectLimit (record { 0 = object }) (record { 0 = step }) (dispatches log object)) else dispatched basin
        (cells_of basin log) object step)
        ≡ dispatched basin (cells_of basin log) object step
    often true is = absurd (grind (arith, nat_tests))
    often false is = refl

-- ---- after an event

-- a log that is inside a timestep has no fault
pub settled_inside : (log : Log) (step : ℕ) → standing log ≡ inside step → end_of log ≡ Settled
settled_inside [] step is = refl
settled_inside (fault why ∷ log) step is = absurd (cc)
settled_inside (event ∷ log) step is = refl

-- what an engine tells of the dispatch of an object
pub record Told (basin : Draft) (old new : Engine) (looked : List Look) (step object : ℕ) (event : Event) (ended : DispatchEnd) : Type 0 where
  pub is : Ends basin looked object step event ended
  pub cells : (cell : Cell) → held new.series cell ≡ held_after basin event (held old.series) cell
  pub trace : new.trace ≡ with_lines old.trace (lines_by object step ended (written_by event))
  pub closed_steps : new.closed ≡ old.closed

module _ (basin : Draft) (looked : List Look) (step object : ℕ) (before behind : List ℕ) (log : Log) where
  -- what the end of a dispatch says of its event
  record Says (event : Event) (ended : DispatchEnd) : Type 0 where
    pub lines_are : lines_by object step ended (written_by event) ≡ lines event
    pub last : last_closed (event ∷ log) ≡ last_closed log
    pub looks : (rule : ℕ) → last_looks (event ∷ log) rule ≡ last_looks log rule
    pub fires : (rule : ℕ) → firings (event ∷ log) rule ≡ firings log rule
    pub calm : fault_by object step ended ≡ None → (end_of (event ∷ log) ≡ Settled) × (standing (event ∷ log) ≡ inside step)
        × (waiting basin log ≡ before ++ object ∷ behind → waiting basin (event ∷ log) ≡ queued_after basin event (before ++ behind))
        × ((other : ℕ) → dispatches (event ∷ log) other ≡ count_if (object == other) (dispatches log other))
    pub faulted : (why : RunFault) → fault_by object step ended ≡ Some why → event ≡ fault why

  of_end : (ended : DispatchEnd) (asked written : List Put) → Says (event_of basin looked object step (answer_of ended asked written)) ended
  of_end IsIdle asked written = record {
    lines_are = refl;
    last = refl;
    looks = λ rule. refl;
    fires = λ rule. refl;
    calm = λ none. (refl, refl, λ waits. idles basin log object step looked before behind waits, λ other. refl);
    faulted = λ why some. absurd (none-some _ some);
  }
  of_end IsSolved asked written = record {
    lines_are = refl;
    last = refl;
    looks = λ rule. refl;
    fires = λ rule. refl;
    calm = λ none. (
      refl,
      refl,
      λ waits. solves basin log (record {
        object = object;
        step = step;
        looked = looked;
        asked = asked_for basin object step asked;
        written = asked_for basin object step written;
      }) before behind waits,
      λ other. refl,
    );
    faulted = λ why some. absurd (none-some _ some);
  }
  of_end (IsConflict slot held_there solves_here) asked written = record {
    lines_are = refl;
    last = refl;
    looks = λ rule. refl;
    fires = λ rule. refl;
    calm = λ none. absurd (none-some _ (sym none));
    faulted = λ why some. ap fault (same_Some _ _ some);
  }
  of_end (IsOutOfRange slot value) asked written = record {
    lines_are = refl;
    last = refl;
    looks = λ rule. refl;
    fires = λ rule. refl;
    calm = λ none. absurd (none-some _ (sym none));
    faulted = λ why some. ap fault (same_Some _ _ some);
  }

  says : (event : Event) (ended : DispatchEnd) → Ends basin looked object step event ended → Says event ended
  says event ended ends = subst (λ e. Says e ended) (sym ends.is) (of_end ended ends.asked ends.written)

  shown : (old new : Engine) (event : Event) (ended : DispatchEnd) → Shows basin old log → Told basin old new looked step object event ended
      → new.end ≡ end_of (event ∷ log) → Shows basin new (event ∷ log)
  shown old new event ended shows told end =
      let tells = says event ended told.is in record {
        cells = λ cell. told.cells cell ∙ ap (λ z. option_or (last_put basin (written_by event) cell) z) (shows.cells cell);
        trace = shown_more old.trace new.trace (trace_of log) (lines event) (told.trace ∙ ap (with_lines old.trace) tells.lines_are) shows.trace;
        closed_steps = told.closed_steps ∙ shows.closed_steps ∙ sym tells.last;
        end = end;
      }

-- the lines of a dispatch are those of its event
pub dispatch_lines : (basin : Draft) (looked : List Look) (step object : ℕ) (event : Event) (ended : DispatchEnd)
    → Ends basin looked object step event ended
    → lines_by object step ended (written_by event) ≡ lines event
dispatch_lines basin looked step object event ended ends = (says basin looked step object [] [] [] event ended ends).lines_are

-- what the state has after that
pub record Went (basin : Draft) (old new : State) (looked : List Look) (step object : ℕ) (rest : List ℕ) (event : Event)
    (ended : DispatchEnd) : Type 0 where
  pub told : Told basin (seen old) (seen new) looked step object event ended
  pub counted : HasCount old.counts object
  pub counts : new.counts ≡ raised old.counts object
  pub queue : new.queue.waiting ≡ queued_after basin event rest
  pub rules : new.rules.agenda.rules ≡ old.rules.agenda.rules
  pub firings : new.firings ≡ old.firings

-- the timestep goes on, or the run ends by the fault
pub goes_to : (basin : Draft) (policy : Accepted) (old new : State) (looked : List Look) (step object place : ℕ) (waits rest : List ℕ) (log : Log)
    (event : Event) (ended : DispatchEnd)
    → IsTaken place waits object rest → HoldsWithin basin policy old step waits log → Went basin old new looked step object rest event ended
    → new.run.end ≡ old.run.end
    → (why : Option RunFault) → fault_by object step ended ≡ why
    → GoesToState basin policy (ending (ended_by why new) (is_some why)) (ended_by why new) step log event
goes_to basin policy old new looked step object place waits rest log event ended taken holds went end None is =
    let tells = says basin looked step object taken.before taken.behind log event ended went.told.is in
    let calm = tells.calm is in record {
      open_step = calm.1;
      shows = shown basin looked step object taken.before taken.behind log (seen old) (seen new) event ended holds.shows went.told
          (end ∙ holds.shows.end ∙ settled_inside log step holds.open_step ∙ sym calm.0);
      queue = went.queue ∙ ap (queued_after basin event) taken.new_is ∙ sym (calm.2 (sym holds.queue ∙ taken.old_is));
      counts = λ other known.
          ap (λ counts. count_of_number counts other) went.counts
          ∙ raised_at old.counts object other went.counted known.first
          ∙ ap (count_if (object == other)) (holds.counts other known) ∙ sym (calm.3 other);
      looks = λ rule first last.
          ap (λ (entries : List Entry). (slice_index_or entries (rule - 1) (unfired 0)).looked) went.rules ∙ holds.looks rule first last
          ∙ sym (tells.looks rule);
      firings = λ rule first. ap (λ counts. count_of_number counts rule) went.firings ∙ holds.firings rule first ∙ sym (tells.fires rule);
    }
goes_to basin policy old new looked step object place waits rest log event ended taken holds went end (Some why) is =
    let faulted = (says basin looked step object taken.before taken.behind log event ended went.told.is).faulted why is in (
      faulted,
      shown basin looked step object taken.before taken.behind log (seen old) (seen (record new { run = record new.run { end = Fault why } })) event
          ended holds.shows
          (record { is = went.told.is; cells = went.told.cells; trace = went.told.trace; closed_steps = went.told.closed_steps })
          (ap (λ e. end_of (e ∷ log)) (sym faulted)),
    )

-- What follows where no object waits, and the firing of a rule, over the log that the state holds.
use Rattle.std.specs.Prelude.{is_some}
use Rattle.rw_engine.proofs.Common.{Asked, Bool, Cell, Cells, Draft, Fault, GoesToState, HoldsWithin, HasCount, List, Log, None, Option, Policy}
use Rattle.rw_engine.proofs.Common.{RunFault, Shows, Some, State, [], ap, arith, cells_of, count_if, count_of_number, dispatches, ended_by, ending}
use Rattle.rw_engine.proofs.Common.{false, fault, fault_of_rule, held, if◌then◌else◌, last_put, line_of, lines, lines_of_rule, map, nat_le, nat_tests}
use Rattle.rw_engine.proofs.Common.{next_of, option_or, raised, refl, seen, slice_index_or, subst, sym, trace_of, true, waiting, written_by, ℕ, ◌++◌}
use Rattle.rw_engine.proofs.Common.{◌-◌, ◌<◌, ◌==◌, ◌∙◌, ◌∷◌, ◌≡◌, ◌≤◌}
use Rattle.rpl_verify.specs.Verified.{Accepted}
use Rattle.rw_run.proofs.Waits.{fires}
use Rattle.rw_run.specs.Dispatch.{dispatched, looks_at}
use Rattle.rw_run.specs.Log.{Firing, fired}
use Rattle.rw_run.specs.Next.{after_objects, ended, firing_of, firings, first_due}
use Rattle.rw_run.specs.Trace.{told}
use Rattle.rw_run.specs.Waiting.{slots_at, woken}
use Rattle.rw_run.specs.declared.fault.RunFault.TheVariants.{ObjectLimit, RuleLimit}
use Rattle.rw_run.specs.declared.trace.TraceEvent.{TraceEvent}
use Rattle.rw_run.specs.declared.trace.TraceEvent.TheVariants.{Fire as FireLine, Fault as FaultLine}
use Rattle.rw_agenda.specs.Agenda.{Entry, unfired}
use Rattle.rw_rules.specs.Rules.{Rules, ShowsLooks}
use Rattle.rw_firing.specs.Fire.{Fire}
use Rattle.rw_firing.specs.declared.fire.FireEnd.{FireEnd}
use Rattle.rw_firing.specs.declared.fire.FireEnd.TheVariants.{Done, Unknown, ZeroDivisor as DividesByZero, OutOfRange}
use Rattle.rw_engine.proofs.Events.{settled_inside}
use Rattle.rw_engine.proofs.Raises.{raised_at}
use Rattle.rw_engine.proofs.Traces.{shown_more}

-- ---- what follows

-- an object that reached its limit ends the run
pub object_stops : (basin : Draft) (policy : Policy) (step : ℕ) (log : Log) (object count : ℕ)
    → count ≡ dispatches log object → basin.control.object_limit ≤ count
    → next_of basin policy (cells_of basin log) log step (Some object)
    ≡ Some (fault (ObjectLimit (record { 0 = object }) (record { 0 = step }) count))
object_stops basin policy step log object count counted full =
    ap Some (often (nat_le basin.control.object_limit (dispatches log object)) refl
    ∙ ap (λ n. fault (ObjectLimit (record { 0 = object }) (record { 0 = step }) n)) (sym counted))
  where
    often : (reached : Bool) → nat_le basin.control.object_limit (dispatches log object) ≡ reached
        → (if reached then fault (ObjectLimit (record { 0 = object }) (record { 0 = step }) (dispatches log object)) else dispatched basin
        (cells_of basin log) object step)
        ≡ fault (ObjectLimit (record { 0 = object }) (record { 0 = step }) (dispatches log object))
    often true is = refl
    often false is = absurd (grind (arith, nat_tests))

-- where no object waits, it goes by the rule that is due
pub after_all : (basin : Draft) (policy : Policy) (cells : Cells) (step : ℕ) (log : Log) (due : Option ℕ) → cells ≡ cells_of basin log
    → first_due basin policy cells log ≡ due → next_of basin policy (cells_of basin log) log step None ≡ after_objects basin policy cells log step due
after_all basin policy cells step log due same is =
    ap (λ z. after_objects basin policy z log step (first_due basin policy z log)) (sym same)
    ∙ ap (after_objects basin policy cells log step) is

module _ (basin : Draft) (policy : Policy) (cells : Cells) (step : ℕ) (log : Log) (rule : ℕ) where
  -- below its limit it fires
  pub rule_fires : firings log rule < basin.control.rule_limit
      → after_objects basin policy cells log step (Some rule) ≡ firing_of basin policy cells rule step
  rule_fires below = by (nat_le basin.control.rule_limit (firings log rule)) refl
    where
      by : (reached : Bool) → nat_le basin.control.rule_limit (firings log rule) ≡ reached
          → (if reached then Some (fault (RuleLimit (record { 0 = rule }) (record { 0 = step }) (firings log rule))) else firing_of basin policy
          cells rule step)
          ≡ firing_of basin policy cells rule step
      by true is = absurd (grind (arith, nat_tests))
      by false is = refl

  -- and one that reached it ends the run
  pub rule_stops : (count : ℕ) → count ≡ firings log rule → basin.control.rule_limit ≤ count
      → after_objects basin policy cells log step (Some rule) ≡ Some (fault (RuleLimit (record { 0 = rule }) (record { 0 = step }) count))
  rule_stops count counted full =
      by (nat_le basin.control.rule_limit (firings log rule)) refl
      ∙ ap (λ n. Some (fault (RuleLimit (record { 0 = rule }) (record { 0 = step }) n))) (sym counted)
    where
      by : (reached : Bool) → nat_le basin.control.rule_limit (firings log rule) ≡ reached
          → (if reached then Some (fault (RuleLimit (record { 0 = rule }) (record { 0 = step }) (firings log rule))) else firing_of basin policy
          cells rule step)
          ≡ Some (fault (RuleLimit (record { 0 = rule }) (record { 0 = step }) (firings log rule)))
      by true is = refl
      by false is = absurd (grind (arith, nat_tests))

-- ---- after a firing

-- what was made where a rule fired so, and writes these and tells these lines
pub record MadeSo (basin : Draft) (policy : Accepted) (old new : State) (rule step : ℕ) (log : Log) (fire : Fire) (written : List Asked)
    (more : List TraceEvent) : Type 0 where
  pub cells : (cell : Cell) → held new.run.series cell ≡ option_or (last_put basin written cell) (held old.run.series cell)
  pub trace : new.run.trace ≡ told old.run.trace more
  pub closed_steps : new.run.closed ≡ old.run.closed
  pub counted : HasCount old.firings rule
  pub firings : new.firings ≡ raised old.firings rule
  pub counts : new.counts ≡ old.counts
  pub queue : new.queue.waiting ≡ old.queue.waiting ++ woken basin None old.queue.waiting (slots_at step written)
  pub looks : (firing : Firing) → firing.rule ≡ rule → firing.looked ≡ looks_at (held old.run.series) fire.looked
      → ShowsLooks policy new.rules (fired firing ∷ log)

module _ (basin : Draft) (policy : Accepted) (old new : State) (rule step : ℕ) (log : Log) (fire : Fire)
    (holds : HoldsWithin basin policy old step old.queue.waiting log)
    (end : new.run.end ≡ old.run.end) where
  goes_on : (is_done : Bool) (asked written : List Asked)
      → MadeSo basin policy old new rule step log fire written (FireLine (record { 0 = rule }) is_done fire.count ∷ map line_of written)
      → HoldsWithin basin policy new step new.queue.waiting (fired (record {
        rule = rule;
        step = step;
        is_done = is_done;
        looked = looks_at (held old.run.series) fire.looked;
        asked = asked;
        written = written;
        count = fire.count;
      }) ∷ log)
  goes_on is_done asked written made =
      let firing : Firing = record {
        rule = rule;
        step = step;
        is_done = is_done;
        looked = looks_at (held old.run.series) fire.looked;
        asked = asked;
        written = written;
        count = fire.count;
      } in record {
        open_step = refl;
        shows = record {
          cells = λ cell. made.cells cell ∙ ap (λ z. option_or (last_put basin written cell) z) (holds.shows.cells cell);
          trace =
              shown_more old.run.trace new.run.trace (trace_of log) (FireLine (record { 0 = rule }) is_done fire.count ∷ map line_of written)
              made.trace holds.shows.trace;
          closed_steps = made.closed_steps ∙ holds.shows.closed_steps;
          end = end ∙ holds.shows.end ∙ settled_inside log step holds.open_step;
        };
        queue = made.queue ∙ ap (λ queue. queue ++ woken basin None queue (slots_at step written)) holds.queue ∙ sym (fires basin log firing);
        counts = λ object known. ap (λ counts. count_of_number counts object) made.counts ∙ holds.counts object known;
        looks = made.looks firing refl refl;
        firings = λ other first.
            ap (λ counts. count_of_number counts other) made.firings
            ∙ raised_at old.firings rule other made.counted first
            ∙ ap (count_if (rule == other)) (holds.firings other first);
      }

  ends_by : (why : RunFault) → MadeSo basin policy old new rule step log fire [] (FaultLine why ∷ [])
      → Shows basin (seen (record new { run = record new.run { end = Fault why } })) (fault why ∷ log)
  ends_by why made = record {
    cells = λ cell. made.cells cell ∙ holds.shows.cells cell;
    trace = shown_more old.run.trace new.run.trace (trace_of log) (FaultLine why ∷ []) made.trace holds.shows.trace;
    closed_steps = made.closed_steps ∙ holds.shows.closed_steps;
    end = refl;
  }

  -- the timestep goes on, or the run ends by the fault
  pub fired_to : (so : FireEnd)
      → MadeSo basin policy old new rule step log fire (written_by (ended basin (held old.run.series) rule step fire so))
      (lines_of_rule rule step so fire.count (written_by (ended basin (held old.run.series) rule step fire so)))
      → GoesToState basin policy (ending (ended_by (fault_of_rule rule step so) new) (is_some (fault_of_rule rule step so)))
      (ended_by (fault_of_rule rule step so) new) step log (ended basin (held old.run.series) rule step fire so)
  fired_to Done made = goes_on true _ _ made
  fired_to Unknown made = goes_on false _ _ made
  fired_to DividesByZero made = (refl, ends_by _ made)
  fired_to (OutOfRange value) made = (refl, ends_by _ made)

-- its lines are those of its event
pub firing_lines : (basin : Draft) (cells : Cells) (rule step : ℕ) (fire : Fire) (so : FireEnd)
    → lines_of_rule rule step so fire.count (written_by (ended basin cells rule step fire so)) ≡ lines (ended basin cells rule step fire so)
firing_lines basin cells rule step fire Done = refl
firing_lines basin cells rule step fire Unknown = refl
firing_lines basin cells rule step fire DividesByZero = refl
firing_lines basin cells rule step fire (OutOfRange value) = refl

-- the same, of an end that is told and its fault
pub fired_on : (basin : Draft) (policy : Accepted) (old new : State) (rule step : ℕ) (log : Log) (fire : Fire)
    → HoldsWithin basin policy old step old.queue.waiting log
    → new.run.end ≡ old.run.end → (so : FireEnd) → so ≡ fire.end → (why : Option RunFault) → why ≡ fault_of_rule rule step so
    → MadeSo basin policy old new rule step log fire (written_by (ended basin (held old.run.series) rule step fire fire.end))
    (lines_of_rule rule step fire.end fire.count (written_by (ended basin (held old.run.series) rule step fire fire.end)))
    → GoesToState basin policy (ending (ended_by why new) (is_some why)) (ended_by why new) step log
    (ended basin (held old.run.series) rule step fire fire.end)
fired_on basin policy old new rule step log fire holds end so same why is made =
    subst (λ w. GoesToState basin policy (ending (ended_by w new) (is_some w)) (ended_by w new) step log
    (ended basin (held old.run.series) rule step fire fire.end))
    (sym (is ∙ ap (fault_of_rule rule step) same)) (fired_to basin policy old new rule step log fire holds end fire.end made)

-- looks of rules whose marks alone changed
pub looks_on : (policy : Accepted) (old new : Rules) (log : Log) → new.agenda.rules ≡ old.agenda.rules → ShowsLooks policy old log
    → ShowsLooks policy new log
looks_on policy old new log same shows rule first last =
    ap (λ (entries : List Entry). (slice_index_or entries (rule - 1) (unfired 0)).looked) same ∙ shows rule first last

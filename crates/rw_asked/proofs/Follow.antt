-- What the event that follows a log has asked for and written, and so that the trace with all puts is the trace with more lines.
use Rattle.rw_base.proofs.Common.{◌≡◌, ℕ, ◌+◌, ℤ, Bool, true, false, cond, List, [], ◌∷◌, ◌++◌, map, Option, Some, None, nat_le, nat_lt}
use Rattle.rw_base.proofs.Common.{refl, sym, ap, ap₂, subst, ◌∙◌, if◌then◌else◌, option_map, filter, filter_map, same_Some, none-some}
use Rattle.rw_base.specs.declared.number.Cell.{Cell}
use Rattle.rw_model.specs.Draft.{Draft}
use Rattle.rw_method.specs.declared.solved.Solved.{Solved}
use Rattle.rw_method.specs.declared.solved.Solved.TheVariants.{Idle, Puts, Conflict, OutOfRange}
use Rattle.rw_firing.specs.Fire.{Fire}
use Rattle.rw_firing.specs.declared.fire.FireEnd.{FireEnd}
use Rattle.rw_firing.specs.declared.fire.FireEnd.TheVariants.{Done, Unknown, ZeroDivisor as DividesByZero, OutOfRange as EndsOutside}
use Rattle.rw_firing.specs.declared.look.Look.{Look}
use Rattle.rw_run.specs.declared.fault.RunFault.TheVariants.{ObjectLimit, RuleLimit}
use Rattle.rw_run.specs.Log.{Asked, Cells, Dispatch, Event, Firing, Log, placed, opened, closed, idle, solved, fired, fault, cells_of, value_in}
use Rattle.rw_run.specs.Choice.{MayFollow}
use Rattle.rw_run.specs.Dispatch.{answered, asked_for, denied_by, dispatch_of, dispatched, end_in, judged, looks_of, or_fault, puts_written, solved_by}
use Rattle.rw_run.specs.Frame.{cells_looked}
use Rattle.rw_run.specs.Next.{Policy, after_objects, asked_by_rule, asked_next, dispatches, ended, first_due, firing_of, firings, last_ones, next_of}
use Rattle.rw_run.specs.RunOf.{line_of, lines, trace_of}
use Rattle.rw_run.specs.Runs.{IsRun, Leads, Standing, follows, follows_by, inside, over, rests, standing, with_inputs}
use Rattle.rw_run.specs.Waiting.{first_waiting}
use Rattle.rw_model.specs.declared.content.Content.{Content}
use Rattle.rw_model.specs.declared.put.PutEnd.{PutEnd}
use Rattle.rw_model.specs.declared.put.PutEnd.TheVariants.{Written, Kept, Denied}
use Rattle.rw_model.specs.Put.{end_of_put}
use Rattle.rw_base.proofs.Common.{int_eq}
use Rattle.rw_run.proofs.Frames.{cells_of_looks}
use Rattle.rw_asked.specs.declared.fate.Fate.TheVariants as Became
use Rattle.rw_asked.specs.Asked.{AllGranted, IsGranted, by_end, fate_over, fates_alone, asked_lines, asked_trace, asks_of, line_of_event, is_in_run, lines_of_asks, plain_of, wanted_by, wanted_of}
use Rattle.rw_asked.proofs.Plain.{alone_plain, fates_plain, plain_joined, plain_told}

-- it looked at the cells at which its rule looks
pub record IsFiredBy (policy : Policy) (cells : Cells) (firing : Firing) : Type 0 where
  pub fire : Fire
  pub is : policy.fire firing.rule firing.step (value_in cells) ≡ Some fire
  pub looked : cells_looked firing.looked ≡ fire.looked

-- what is written of the puts of an event
abbrev pub IsOwn : Draft → Policy → Cells → Event → Type 0
IsOwn basin policy cells (solved dispatch) =
    (dispatch.written ≡ puts_written cells dispatch.asked) × AllGranted (fates_alone cells dispatch.asked)
IsOwn basin policy cells (fired firing) =
    (firing.written ≡ puts_written cells (last_ones basin (filter (is_in_run basin) (wanted_by policy cells firing))))
    × ((firing.asked ≡ filter (is_in_run basin) (wanted_by policy cells firing))
    × IsFiredBy policy cells firing)
IsOwn basin policy cells event = Unit {0}

granted_over_value : (held : Content) (same : Bool) → IsGranted (if same then Became.Written else Became.Over held)
granted_over_value held true = tt
granted_over_value held false = tt

granted_end : (held : Content) (put : Asked) (end : PutEnd) → denied_by end put ≡ None → IsGranted (by_end held put.content end)
granted_end held put Written e = granted_over_value held (int_eq held.value put.content.value)
granted_end held put Kept e = tt
granted_end held put (Denied shown) e = absurd (none-some _ (sym e))

granted_over : (found : Option Content) (put : Asked) → denied_by (end_of_put found put.content) put ≡ None
    → IsGranted (fate_over found put.content)
granted_over None put e = tt
granted_over (Some held) put e = granted_end held put (end_of_put (Some held) put.content) e

fault_own : (basin : Draft) (policy : Policy) (cells : Cells) (object : ℕ) (put : Asked) (rest : Event) (values : Option (ℤ × ℤ))
    → (values ≡ None → IsOwn basin policy cells rest) → IsOwn basin policy cells (or_fault values object put rest)
fault_own basin policy cells object put rest None own = own refl
fault_own basin policy cells object put rest (Some values) own = tt

judged_own : (basin : Draft) (policy : Policy) (cells : Cells) (object : ℕ) (puts : List Asked) (rest : Event)
    → (AllGranted (fates_alone cells puts) → IsOwn basin policy cells rest) → IsOwn basin policy cells (judged cells object puts rest)
judged_own basin policy cells object [] rest own = own tt
judged_own basin policy cells object (put ∷ puts) rest own =
    fault_own basin policy cells object put (judged cells object puts rest) (denied_by (end_in cells put) put)
    (λ none. judged_own basin policy cells object puts rest (λ others. own (granted_over (cells put.cell) put none, others)))

answered_own : (basin : Draft) (policy : Policy) (cells : Cells) (looked : List Look) (object step : ℕ) (answer : Solved)
    → IsOwn basin policy cells (answered basin cells looked object step answer)
answered_own basin policy cells looked object step Idle = tt
answered_own basin policy cells looked object step (Puts puts) =
    judged_own basin policy cells object (asked_for basin object step puts)
    (dispatch_of cells looked object step (asked_for basin object step puts)) (λ all. (refl, all))
answered_own basin policy cells looked object step (Conflict place held solves) = tt
answered_own basin policy cells looked object step (OutOfRange place value) = tt

ended_own : (basin : Draft) (policy : Policy) (cells : Cells) (rule step : ℕ) (fire : Fire) (end : FireEnd)
    → policy.fire rule step (value_in cells) ≡ Some fire → IsOwn basin policy cells (ended basin cells rule step fire end)
ended_own basin policy cells rule step fire DividesByZero e = tt
ended_own basin policy cells rule step fire (EndsOutside value) e = tt
ended_own basin policy cells rule step fire Unknown e =
    (refl, (refl, record { fire = fire; is = e; looked = cells_of_looks cells fire.looked }))
ended_own basin policy cells rule step fire Done e = (
  ap (λ found. puts_written cells (last_ones basin (filter (is_in_run basin) (wanted_of rule step found)))) (sym e),
  (
    ap (λ found. filter (is_in_run basin) (wanted_of rule step found)) (sym e),
    record { fire = fire; is = e; looked = cells_of_looks cells fire.looked },
  ),
)

own_of : (basin : Draft) (policy : Policy) (cells : Cells) (one event : Event) → Some one ≡ Some event → IsOwn basin policy cells one
    → IsOwn basin policy cells event
own_of basin policy cells one event is own = subst (IsOwn basin policy cells) (same_Some _ _ is) own

firing_own : (basin : Draft) (policy : Policy) (cells : Cells) (rule step : ℕ) (found : Option Fire) (event : Event)
    → policy.fire rule step (value_in cells) ≡ found → option_map (λ (fire : Fire). ended basin cells rule step fire fire.end) found ≡ Some event
    → IsOwn basin policy cells event
firing_own basin policy cells rule step None event e is = absurd (none-some _ is)
firing_own basin policy cells rule step (Some fire) event e is =
    own_of basin policy cells (ended basin cells rule step fire fire.end) event is (ended_own basin policy cells rule step fire fire.end e)

after_own : (basin : Draft) (policy : Policy) (cells : Cells) (log : Log) (step : ℕ) (due : Option ℕ) (event : Event)
    → after_objects basin policy cells log step due ≡ Some event → IsOwn basin policy cells event
after_own basin policy cells log step None event is = own_of basin policy cells (closed step) event is tt
after_own basin policy cells log step (Some rule) event is = by (nat_le basin.control.rule_limit (firings log rule)) is
  where
    by : (k : Bool) → (if k then Some (fault (RuleLimit (record { 0 = rule }) (record { 0 = step }) (firings log rule)))
        else firing_of basin policy cells rule step) ≡ Some event → IsOwn basin policy cells event
    by true is = own_of basin policy cells _ event is tt
    by false is = firing_own basin policy cells rule step (policy.fire rule step (value_in cells)) event refl is

asked_own : (basin : Draft) (policy : Policy) (cells : Cells) (log : Log) (step object : ℕ) → IsOwn basin policy cells
    (asked_next basin cells log step object)
asked_own basin policy cells log step object = by (nat_le basin.control.object_limit (dispatches log object))
  where
    by : (k : Bool) → IsOwn basin policy cells (if k then fault (ObjectLimit (record { 0 = object }) (record { 0 = step }) (dispatches log object))
        else dispatched basin cells object step)
    by true = tt
    by false = answered_own basin policy cells (looks_of basin cells object step) object step (solved_by basin cells object step)

next_own : (basin : Draft) (policy : Policy) (cells : Cells) (log : Log) (step : ℕ) (object : Option ℕ) (event : Event)
    → next_of basin policy cells log step object ≡ Some event → IsOwn basin policy cells event
next_own basin policy cells log step None event is = after_own basin policy cells log step (first_due basin policy cells log) event is
next_own basin policy cells log step (Some object) event is =
    own_of basin policy cells (asked_next basin cells log step object) event is (asked_own basin policy cells log step object)

follows_own : (basin : Draft) (policy : Policy) (log : Log) (event : Event) (object : Option ℕ) (where_it : Standing)
    → follows_by basin policy log object where_it ≡ Some event → IsOwn basin policy (cells_of basin log) event
follows_own basin policy log event object (rests step) is = by (nat_lt step basin.control.stamps.count) is
  where
    by : (k : Bool) → (if k then Some (opened (step + 1)) else None) ≡ Some event → IsOwn basin policy (cells_of basin log) event
    by true is = own_of basin policy (cells_of basin log) (opened (step + 1)) event is tt
    by false is = absurd (none-some _ is)
follows_own basin policy log event object (inside step) is = next_own basin policy (cells_of basin log) log step object event is
follows_own basin policy log event object over is = absurd (none-some _ is)

pub own : (basin : Draft) (policy : Policy) (log : Log) (event : Event) → follows basin policy log ≡ Some event
    → IsOwn basin policy (cells_of basin log) event
own basin policy log event is = follows_own basin policy log event (first_waiting basin log) (standing log) is

-- the same, whoever is dispatched
pub may_own : (basin : Draft) (policy : Policy) (log : Log) (event : Event) → MayFollow basin policy log event
    → IsOwn basin policy (cells_of basin log) event
may_own basin policy log event may = follows_own basin policy log event may.object (standing log) may.is

-- ---- the trace

lines_plain : (basin : Draft) (policy : Policy) (cells : Cells) (event : Event) → IsOwn basin policy cells event
    → filter_map plain_of (asked_lines basin policy cells event) ≡ lines event
lines_plain basin policy cells (placed cell value) o = refl
lines_plain basin policy cells (opened step) o = refl
lines_plain basin policy cells (closed step) o = refl
lines_plain basin policy cells (idle object step looked) o = refl
lines_plain basin policy cells (fault why) o = refl
lines_plain basin policy cells (solved dispatch) o =
    plain_told (line_of_event (solved dispatch)) (lines_of_asks (asks_of basin policy cells (solved dispatch)))
    ∙ ap (λ told. line_of_event (solved dispatch) ++ told) (alone_plain cells dispatch.asked ∙ ap (map line_of) (sym o.0))
lines_plain basin policy cells (fired firing) o =
    plain_told (line_of_event (fired firing)) (lines_of_asks (asks_of basin policy cells (fired firing)))
    ∙ ap (λ told. line_of_event (fired firing) ++ told) (fates_plain basin cells (wanted_by policy cells firing) ∙ ap (map line_of) (sym o.0))

pub event_plain : (basin : Draft) (policy : Policy) (log : Log) (event : Event) → follows basin policy log ≡ Some event
    → filter_map plain_of (asked_lines basin policy (cells_of basin log) event) ≡ lines event
event_plain basin policy log event is = lines_plain basin policy (cells_of basin log) event (own basin policy log event is)

abbrev IsPlain : Draft → Policy → Log → Type 0
IsPlain basin policy log = filter_map plain_of (asked_trace basin policy log) ≡ trace_of log

one_more : (basin : Draft) (policy : Policy) (log : Log) (event : Event) → IsPlain basin policy log
    → filter_map plain_of (asked_lines basin policy (cells_of basin log) event) ≡ lines event → IsPlain basin policy (event ∷ log)
one_more basin policy log event before here =
    plain_joined plain_of (asked_trace basin policy log) (asked_lines basin policy (cells_of basin log) event)
    ∙ ap₂ (λ xs ys. xs ++ ys) before here

inputs_plain : (basin : Draft) (policy : Policy) (log : Log) (inputs : List (Cell × ℤ)) → IsPlain basin policy log
    → IsPlain basin policy (with_inputs log inputs)
inputs_plain basin policy log [] before = before
inputs_plain basin policy log (input ∷ inputs) before =
    inputs_plain basin policy (placed input.0 input.1 ∷ log) inputs (one_more basin policy log (placed input.0 input.1) before refl)

leads_plain : (basin : Draft) (policy : Policy) (old : Log) (events : List Event) (new : Log) → Leads basin policy old events new
    → IsPlain basin policy old → IsPlain basin policy new
leads_plain basin policy old [] new leads before = subst (IsPlain basin policy) (sym leads) before
leads_plain basin policy old (event ∷ events) new leads before =
    leads_plain basin policy (event ∷ old) events new leads.1
    (one_more basin policy old event before (event_plain basin policy old event leads.0))

pub run_plain : (basin : Draft) (policy : Policy) (inputs : List (Cell × ℤ)) (log : Log) → IsRun basin policy inputs log
    → filter_map plain_of (asked_trace basin policy log) ≡ trace_of log
run_plain basin policy inputs log run =
    leads_plain basin policy (with_inputs [] inputs) run.events log run.leads (inputs_plain basin policy [] inputs refl)

pub firing_asks : (basin : Draft) (policy : Policy) (log : Log) (firing : Firing) → follows basin policy log ≡ Some (fired firing)
    → firing.asked ≡ filter (is_in_run basin) (wanted_by policy (cells_of basin log) firing)
firing_asks basin policy log firing is = (own basin policy log (fired firing) is).1.0

pub dispatch_granted : (basin : Draft) (policy : Policy) (log : Log) (dispatch : Dispatch) → follows basin policy log ≡ Some (solved dispatch)
    → AllGranted (asks_of basin policy (cells_of basin log) (solved dispatch))
dispatch_granted basin policy log dispatch is = (own basin policy log (solved dispatch) is).1

-- Policies that do the same tell the same lines.
use Rattle.rw_base.proofs.Common.{◌≡◌, ◌∙◌, ℕ, ◌+◌, ℤ, Bool, true, false, List, [], ◌∷◌, ◌++◌, map, Option, Some, None, find, nat_le, nat_lt}
use Rattle.rw_base.proofs.Common.{refl, sym, ap, ap₂, subst, if◌then◌else◌, option_map, same_Some, none-some}
use Rattle.rw_base.specs.declared.number.Cell.{Cell}
use Rattle.rw_model.specs.Draft.{Draft}
use Rattle.rw_method.specs.declared.solved.Solved.{Solved}
use Rattle.rw_method.specs.declared.solved.Solved.TheVariants.{Idle, Puts, Conflict, OutOfRange}
use Rattle.rw_firing.specs.Fire.{Fire}
use Rattle.rw_firing.specs.declared.fire.FireEnd.{FireEnd}
use Rattle.rw_firing.specs.declared.fire.FireEnd.TheVariants.{Done, Unknown, ZeroDivisor as DividesByZero, OutOfRange as EndsOutside}
use Rattle.rw_firing.specs.declared.look.Look.{Look}
use Rattle.rw_run.proofs.SameRuns.{due_is_rule}
use Rattle.rw_run.specs.declared.fault.RunFault.TheVariants.{ObjectLimit, RuleLimit}
use Rattle.rw_run.specs.Choice.{MayFollow, MayLead}
use Rattle.rw_run.specs.Dispatch.{answered, asked_for, denied_by, dispatch_of, dispatched, end_in, judged, looks_of, or_fault, solved_by}
use Rattle.rw_run.specs.Log.{Asked, Cells, Event, Firing, Log, placed, opened, closed, idle, solved, fired, fault, cells_of, value_in}
use Rattle.rw_run.specs.Next.{Policy, after_objects, agenda_of, asked_next, dispatches, ended, first_due, firing_of, firings, is_due, next_of}
use Rattle.rw_run.specs.Policy.{FireAlike, IsRule}
use Rattle.rw_run.specs.Runs.{IsRun, Leads, Standing, follows_by, inside, over, rests, standing, with_inputs}
use Rattle.rw_run.specs.Waiting.{first_waiting}
use Rattle.rw_asked.specs.Asked.{asked_lines, asked_trace, fates_of, line_of_event, lines_of_asks, plain_line, wanted_of}

-- ---- who fires is a rule of the policy

abbrev IsRuled : Policy → Event → Type 0
IsRuled policy (fired firing) = IsRule policy firing.rule
IsRuled policy event = Unit {0}

fault_ruled : (policy : Policy) (object : ℕ) (put : Asked) (rest : Event) (values : Option (ℤ × ℤ)) → IsRuled policy rest
    → IsRuled policy (or_fault values object put rest)
fault_ruled policy object put rest None ruled = ruled
fault_ruled policy object put rest (Some values) ruled = tt

judged_ruled : (policy : Policy) (cells : Cells) (object : ℕ) (puts : List Asked) (rest : Event) → IsRuled policy rest
    → IsRuled policy (judged cells object puts rest)
judged_ruled policy cells object [] rest ruled = ruled
judged_ruled policy cells object (put ∷ puts) rest ruled =
    fault_ruled policy object put (judged cells object puts rest) (denied_by (end_in cells put) put)
    (judged_ruled policy cells object puts rest ruled)

answer_ruled : (basin : Draft) (policy : Policy) (cells : Cells) (looked : List Look) (object step : ℕ) (answer : Solved)
    → IsRuled policy (answered basin cells looked object step answer)
answer_ruled basin policy cells looked object step Idle = tt
answer_ruled basin policy cells looked object step (Puts puts) =
    judged_ruled policy cells object (asked_for basin object step puts) (dispatch_of cells looked object step (asked_for basin object step puts)) tt
answer_ruled basin policy cells looked object step (Conflict place held solves) = tt
answer_ruled basin policy cells looked object step (OutOfRange place value) = tt

ended_ruled : (basin : Draft) (policy : Policy) (cells : Cells) (rule step : ℕ) → IsRule policy rule → (fire : Fire) (end : FireEnd)
    → IsRuled policy (ended basin cells rule step fire end)
ended_ruled basin policy cells rule step is fire Done = is
ended_ruled basin policy cells rule step is fire Unknown = is
ended_ruled basin policy cells rule step is fire DividesByZero = tt
ended_ruled basin policy cells rule step is fire (EndsOutside value) = tt

ruled_of : (policy : Policy) (one event : Event) → Some one ≡ Some event → IsRuled policy one → IsRuled policy event
ruled_of policy one event is ruled = subst (IsRuled policy) (same_Some _ _ is) ruled

firing_ruled : (basin : Draft) (policy : Policy) (cells : Cells) (rule step : ℕ) → IsRule policy rule → (found : Option Fire) (event : Event)
    → option_map (λ (fire : Fire). ended basin cells rule step fire fire.end) found ≡ Some event → IsRuled policy event
firing_ruled basin policy cells rule step is None event follows = absurd (none-some _ follows)
firing_ruled basin policy cells rule step is (Some fire) event follows =
    ruled_of policy _ event follows (ended_ruled basin policy cells rule step is fire fire.end)

after_ruled : (basin : Draft) (policy : Policy) (cells : Cells) (log : Log) (step : ℕ) (due : Option ℕ)
    → ((rule : ℕ) → due ≡ Some rule → IsRule policy rule) → (event : Event)
    → after_objects basin policy cells log step due ≡ Some event → IsRuled policy event
after_ruled basin policy cells log step None known event follows = ruled_of policy (closed step) event follows tt
after_ruled basin policy cells log step (Some rule) known event follows = by (nat_le basin.control.rule_limit (firings log rule)) follows
  where
    by : (k : Bool) → (if k then Some (fault (RuleLimit (record { 0 = rule }) (record { 0 = step }) (firings log rule)))
        else firing_of basin policy cells rule step) ≡ Some event → IsRuled policy event
    by true follows = ruled_of policy _ event follows tt
    by false follows = firing_ruled basin policy cells rule step (known rule refl) (policy.fire rule step (value_in cells)) event follows

dispatch_ruled : (basin : Draft) (policy : Policy) (cells : Cells) (log : Log) (step object : ℕ) → IsRuled policy
    (asked_next basin cells log step object)
dispatch_ruled basin policy cells log step object = by (nat_le basin.control.object_limit (dispatches log object))
  where
    by : (k : Bool) → IsRuled policy (if k then fault (ObjectLimit (record { 0 = object }) (record { 0 = step }) (dispatches log object))
        else dispatched basin cells object step)
    by true = tt
    by false = answer_ruled basin policy cells (looks_of basin cells object step) object step (solved_by basin cells object step)

follows_ruled : (basin : Draft) (policy : Policy) (log : Log) (object : Option ℕ) (event : Event) (at : Standing)
    → follows_by basin policy log object at ≡ Some event → IsRuled policy event
follows_ruled basin policy log object event (rests step) follows = by (nat_lt step basin.control.stamps.count) follows
  where
    by : (k : Bool) → (if k then Some (opened (step + 1)) else None) ≡ Some event → IsRuled policy event
    by true follows = ruled_of policy (opened (step + 1)) event follows tt
    by false follows = absurd (none-some _ follows)
follows_ruled basin policy log None event (inside step) follows =
    after_ruled basin policy (cells_of basin log) log step (first_due basin policy (cells_of basin log) log)
    (λ rule found. due_is_rule basin policy (cells_of basin log) log rule found) event follows
follows_ruled basin policy log (Some object) event (inside step) follows =
    ruled_of policy _ event follows (dispatch_ruled basin policy (cells_of basin log) log step object)
follows_ruled basin policy log object event over follows = absurd (none-some _ follows)

-- ---- what follows is the same, and is told so

module _ (basin : Draft) (one other : Policy) (alike : FireAlike one other) where
  lines_alike : (cells : Cells) (event : Event) → IsRuled one event → asked_lines basin one cells event ≡ asked_lines basin other cells event
  lines_alike cells (placed cell value) ruled = refl
  lines_alike cells (opened step) ruled = refl
  lines_alike cells (closed step) ruled = refl
  lines_alike cells (idle object step looked) ruled = refl
  lines_alike cells (solved dispatch) ruled = refl
  lines_alike cells (fault why) ruled = refl
  lines_alike cells (fired firing) ruled =
      ap (λ found. map plain_line (line_of_event (fired firing))
      ++ lines_of_asks (fates_of basin cells (if firing.is_done then wanted_of firing.rule firing.step found else [])))
      (alike.same firing.rule firing.step (value_in cells) ruled)

  fires_alike : (cells : Cells) (rule step : ℕ) → IsRule one rule → firing_of basin one cells rule step ≡ firing_of basin other cells rule step
  fires_alike cells rule step is =
      ap (option_map (λ (fire : Fire). ended basin cells rule step fire fire.end)) (alike.same rule step (value_in cells) is)

  due_alike : (cells : Cells) (log : Log) (step : ℕ) (due : Option ℕ) → ((rule : ℕ) → due ≡ Some rule → IsRule one rule)
      → after_objects basin one cells log step due ≡ after_objects basin other cells log step due
  due_alike cells log step None is = refl
  due_alike cells log step (Some rule) is =
      ap (λ fires. if nat_le basin.control.rule_limit (firings log rule)
      then Some (fault (RuleLimit (record { 0 = rule }) (record { 0 = step }) (firings log rule))) else fires)
      (fires_alike cells rule step (is rule refl))

  follows_alike : (log : Log) (object : Option ℕ) (at : Standing) → follows_by basin one log object at ≡ follows_by basin other log object at
  follows_alike log object (rests step) = refl
  follows_alike log None (inside step) =
      due_alike (cells_of basin log) log step (first_due basin one (cells_of basin log) log)
      (λ rule found. due_is_rule basin one (cells_of basin log) log rule found)
      ∙ ap (λ rules. after_objects basin other (cells_of basin log) log step
      (find (is_due (cells_of basin log) log) (agenda_of basin.control.agenda rules))) alike.rules
  follows_alike log (Some object) (inside step) = refl
  follows_alike log object over = refl

  may_alike : (old : Log) (events : List Event) (new : Log) → MayLead basin one old events new → MayLead basin other old events new
  may_alike old [] new leads = leads
  may_alike old (event ∷ events) new leads = (
    record { object = leads.0.object; waits = leads.0.waits; is = sym (follows_alike old leads.0.object (standing old)) ∙ leads.0.is },
    may_alike (event ∷ old) events new leads.1,
  )

  one_more_alike : (log : Log) (event : Event) → IsRuled one event → asked_trace basin one log ≡ asked_trace basin other log
      → asked_trace basin one (event ∷ log) ≡ asked_trace basin other (event ∷ log)
  one_more_alike log event ruled before = ap₂ (λ xs ys. xs ++ ys) before (lines_alike (cells_of basin log) event ruled)

  inputs_alike : (log : Log) (inputs : List (Cell × ℤ)) → asked_trace basin one log ≡ asked_trace basin other log
      → asked_trace basin one (with_inputs log inputs) ≡ asked_trace basin other (with_inputs log inputs)
  inputs_alike log [] before = before
  inputs_alike log (input ∷ inputs) before =
      inputs_alike (placed input.0 input.1 ∷ log) inputs (one_more_alike log (placed input.0 input.1) tt before)

  may_told : (old : Log) (events : List Event) (new : Log) → MayLead basin one old events new → asked_trace basin one old ≡ asked_trace basin other
      old
      → asked_trace basin one new ≡ asked_trace basin other new
  may_told old [] new leads before = subst (λ log. asked_trace basin one log ≡ asked_trace basin other log) (sym leads) before
  may_told old (event ∷ events) new leads before =
      may_told (event ∷ old) events new leads.1
      (one_more_alike old event (follows_ruled basin one old leads.0.object event (standing old) leads.0.is) before)

pub any_alike : (basin : Draft) (one other : Policy) (inputs : List (Cell × ℤ)) (events : List Event) (log : Log) → FireAlike one other
    → MayLead basin one (with_inputs [] inputs) events log
    → MayLead basin other (with_inputs [] inputs) events log × (asked_trace basin one log ≡ asked_trace basin other log)
any_alike basin one other inputs events log alike leads = (
  may_alike basin one other alike (with_inputs [] inputs) events log leads,
  may_told basin one other alike (with_inputs [] inputs) events log leads (inputs_alike basin one other alike [] inputs refl),
)

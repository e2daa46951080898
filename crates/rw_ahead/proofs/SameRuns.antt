-- A run doesn't go by how far ahead rules may put.
use Rattle.rw_base.proofs.Common.{ap, ap₂, Bool, filter, find, false, if◌then◌else◌, length, List, map, nat_le, None, not, option_map}
use Rattle.rw_base.proofs.Common.{option_or, Option, refl, Some, suc, sym, true, zero, ℕ, ℤ, ◌&&◌, ◌++◌, ◌∙◌, ◌∷◌, ◌≡◌, []}
use Rattle.rw_base.specs.declared.number.Cell.{Cell}
use Rattle.rw_model.specs.declared.content.Content.{Content}
use Rattle.rw_model.specs.Draft.{Draft}
use Rattle.rw_method.specs.declared.solved.Solved.{Solved}
use Rattle.rw_method.specs.declared.solved.Solved.TheVariants.{Conflict, Idle, OutOfRange, Puts}
use Rattle.rw_firing.specs.Fire.{Fire}
use Rattle.rw_series.specs.Series.{is_shared}
use Rattle.rw_firing.specs.declared.fire.FireEnd.{FireEnd}
use Rattle.rw_firing.specs.declared.fire.FireEnd.TheVariants.{Done, OutOfRange as EndsOutside, Unknown, ZeroDivisor}
use Rattle.rw_firing.specs.declared.look.Look.{Look}
use Rattle.rw_run.specs.Dispatch.{answered, dispatched, looks_at, looks_of, puts_written, solved_by}
use Rattle.rw_run.specs.Log.{Asked, Cells, Event, Log, cells_of, closed, fault, fired, idle, is_number, last_put, opened, placed, solved}
use Rattle.rw_run.specs.Log.{value_in, written_by}
use Rattle.rw_run.specs.Next.{Policy, after_objects, agenda_of, asked_next, asked_of_rule, dispatches, ended, firing_of, firings, first_due}
use Rattle.rw_run.specs.Next.{is_due, is_put_again, last_ones, next_of}
use Rattle.rw_run.specs.declared.fault.RunFault.TheVariants.{ObjectLimit, RuleLimit}
use Rattle.rw_run.specs.Runs.{IsOver, IsRun, Leads, Standing, follows, follows_by, follows_in, inside, over, rests, standing, with_inputs}
use Rattle.rw_run.specs.Waiting.{ends_wait, first_of, first_waiting, is_since, numbers, since, waiting, waiting_below, wakes}
use Rattle.rw_ahead.specs.Ahead.{DoTheSame, ahead_to}

module _ (basin : Draft) (most : ℕ) where
  abbrev far : Draft
  far = ahead_to most basin

  -- ---- what cells hold

  put_same : (puts : List Asked) (cell : Cell) → last_put far puts cell ≡ last_put basin puts cell
  put_same [] cell = refl
  put_same (put ∷ puts) cell = ap (λ held. option_or held (if is_shared basin put.cell cell then Some put.content else None)) (put_same puts cell)

  held_same : (log : Log) (cell : Cell) → cells_of far log cell ≡ cells_of basin log cell
  held_same [] cell = refl
  held_same (event ∷ log) cell = ap₂ (λ a b. option_or a b) (put_same (written_by event) cell) (held_same log cell)

  pub cells_same : (log : Log) → cells_of far log ≡ cells_of basin log
  cells_same log = λ i cell. (held_same log cell) i

  -- ---- who waits

  wakes_same : (event : Event) (object : ℕ) → wakes far event object ≡ wakes basin event object
  wakes_same (opened step) object = refl
  wakes_same (solved dispatch) object = refl
  wakes_same (fired firing) object = refl
  wakes_same event object = refl

  since_same : (log : Log) (object : ℕ) → since far log object ≡ since basin log object
  since_same [] object = refl
  since_same (event ∷ log) object =
      ap₂ (λ before wakened. option_or (if ends_wait event object then None else before) (if wakened then Some (length log) else None))
      (since_same log object) (wakes_same event object)

  is_since_same : (log : Log) (place : ℕ) → is_since far log place ≡ is_since basin log place
  is_since_same log place = λ i object. (ap (λ at. is_number place at) (since_same log object)) i

  below_same : (log : Log) (place : ℕ) → waiting_below far log place ≡ waiting_below basin log place
  below_same log zero = refl
  below_same log (suc place) =
      ap₂ (λ objects test. objects ++ filter test (numbers (length basin.objects))) (below_same log place) (is_since_same log place)

  waits_same : (log : Log) → first_waiting far log ≡ first_waiting basin log
  waits_same log = ap first_of (below_same log (length log))

  -- ---- a dispatch

  answer_same : (cells : Cells) (looked : List Look) (object step : ℕ) (answer : Solved)
      → answered far cells looked object step answer ≡ answered basin cells looked object step answer
  answer_same cells looked object step Idle = refl
  answer_same cells looked object step (Puts puts) = refl
  answer_same cells looked object step (Conflict place held solves) = refl
  answer_same cells looked object step (OutOfRange place value) = refl

  dispatch_same : (cells : Cells) (object step : ℕ) → dispatched far cells object step ≡ dispatched basin cells object step
  dispatch_same cells object step = answer_same cells (looks_of basin cells object step) object step (solved_by basin cells object step)

  -- ---- a firing

  last_same : (puts : List Asked) → last_ones far puts ≡ last_ones basin puts
  last_same [] = refl
  last_same (put ∷ puts) = ap (λ rest. if is_put_again basin put puts then rest else put ∷ rest) (last_same puts)

  ended_same : (cells : Cells) (rule step : ℕ) (fire : Fire) (end : FireEnd)
      → ended far cells rule step fire end ≡ ended basin cells rule step fire end
  ended_same cells rule step fire ZeroDivisor = refl
  ended_same cells rule step fire (EndsOutside value) = refl
  ended_same cells rule step fire Unknown = refl
  ended_same cells rule step fire Done =
      ap (λ puts. fired (record {
        rule = rule;
        step = step;
        is_done = true;
        looked = looks_at cells fire.looked;
        asked = asked_of_rule basin rule step fire.puts;
        written = puts_written cells puts;
        count = fire.count;
      })) (last_same (asked_of_rule basin rule step fire.puts))

  fired_same : (cells : Cells) (rule step : ℕ) (fire : Option Fire)
      → option_map (λ (f : Fire). ended far cells rule step f f.end) fire ≡ option_map (λ (f : Fire). ended basin cells rule step f f.end) fire
  fired_same cells rule step None = refl
  fired_same cells rule step (Some fire) = ap Some (ended_same cells rule step fire fire.end)

  module _ (policy other : Policy) (same : DoTheSame policy other) where
    firing_same : (cells : Cells) (rule step : ℕ) → firing_of far other cells rule step ≡ firing_of basin policy cells rule step
    firing_same cells rule step =
        fired_same cells rule step (other.fire rule step (value_in cells))
        ∙ ap (option_map (λ (f : Fire). ended basin cells rule step f f.end)) (sym (same.fire rule step (value_in cells)))

    due_same : (cells : Cells) (log : Log) → first_due far other cells log ≡ first_due basin policy cells log
    due_same cells log = ap (λ rules. find (is_due cells log) (agenda_of basin.control.agenda rules)) (sym same.rules)

    after_same : (cells : Cells) (log : Log) (step : ℕ) (rule : Option ℕ)
        → after_objects far other cells log step rule ≡ after_objects basin policy cells log step rule
    after_same cells log step None = refl
    after_same cells log step (Some rule) =
        ap (λ event. if nat_le basin.control.rule_limit (firings log rule)
        then Some (fault (RuleLimit (record { 0 = rule }) (record { 0 = step }) (firings log rule))) else event)
        (firing_same cells rule step)

    next_same : (cells : Cells) (log : Log) (step : ℕ) (object : Option ℕ)
        → next_of far other cells log step object ≡ next_of basin policy cells log step object
    next_same cells log step None =
        ap (after_objects far other cells log step) (due_same cells log) ∙ after_same cells log step (first_due basin policy cells log)
    next_same cells log step (Some object) =
        ap (λ event. Some (if nat_le basin.control.object_limit (dispatches log object)
        then fault (ObjectLimit (record { 0 = object }) (record { 0 = step }) (dispatches log object)) else event)) (dispatch_same cells object step)

    follows_same : (log : Log) (stands : Standing) → follows_in far other log stands ≡ follows_in basin policy log stands
    follows_same log (rests step) = refl
    follows_same log over = refl
    follows_same log (inside step) =
        ap₂ (λ cells object. next_of far other cells log step object) (cells_same log) (waits_same log)
        ∙ next_same (cells_of basin log) log step (first_waiting basin log)

    leads_same : (old : Log) (events : List Event) (new : Log) → Leads basin policy old events new → Leads far other old events new
    leads_same old [] new leads = leads
    leads_same old (event ∷ events) new leads =
        (follows_same old (standing old) ∙ leads.0, leads_same (event ∷ old) events new leads.1)

    over_same : (stands : Standing) → IsOver basin stands → IsOver far stands
    over_same (rests step) is = is
    over_same (inside step) is = is
    over_same over is = is

pub same_run : (basin : Draft) (most : ℕ) (policy other : Policy) (inputs : List (Cell × ℤ)) (log : Log) → DoTheSame policy other
    → IsRun basin policy inputs log → IsRun (ahead_to most basin) other inputs log
same_run basin most policy other inputs log same run = record {
  events = run.events;
  leads = leads_same basin most policy other same (with_inputs [] inputs) run.events log run.leads;
  end = over_same basin most policy other same (standing log) run.end;
}

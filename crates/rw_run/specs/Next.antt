-- The one event that follows in an open timestep.
use Rattle.std.specs.Prelude.{ℕ, ◌+◌, nat_le, ℤ, Bool, true, false, not, List, [], ◌∷◌, map, Option, Some, None, option_map, reverse, if◌then◌else◌}
use Rattle.std.specs.List.{list_any, filter, find}
use Rattle.std.specs.Ordering.{int_eq}
use Rattle.rw_base.specs.declared.number.Cell.{Cell}
use Rattle.rw_model.specs.declared.control.AgendaOrder.{AgendaOrder}
use Rattle.rw_model.specs.declared.control.AgendaOrder.TheVariants.{HighFirst, LowFirst}
use Rattle.rw_model.specs.Draft.{Draft}
use Rattle.rw_firing.specs.Fire.{Fire}
use Rattle.rw_series.specs.Series.{is_shared}
use Rattle.rw_firing.specs.declared.fire.FireEnd.{FireEnd}
use Rattle.rw_firing.specs.declared.fire.FireEnd.TheVariants.{Done, Unknown, ZeroDivisor as DividesByZero, OutOfRange}
use Rattle.rw_firing.specs.declared.fire.RulePut.{RulePut}
use Rattle.rw_firing.specs.declared.look.Look.{Look}
use Rattle.rw_run.specs.declared.fault.RunFault.TheVariants.{ZeroDivisor, RuleOutOfRange, ObjectLimit, RuleLimit}
use Rattle.rw_run.specs.Log.{Asked, Cells, Event, Firing, closed, fired, fault, Log, cells_of, dispatched_in, firing_in, is_number, is_opened, value_in}
use Rattle.rw_run.specs.Waiting.{numbers, first_waiting}
use Rattle.rw_model.specs.declared.writer.Writer.TheVariants.{Rule}
use Rattle.rw_run.specs.Dispatch.{cell_at, dispatched, looks_at, puts_written}

-- so many rules, and what each does at a timestep, by the values of the cells: nothing where its code is stuck, as no code is
-- that was verified
pub record Policy : Type 0 where
  pub rules : ℕ
  pub fire : ℕ → ℕ → (Cell → Option ℤ) → Option Fire

-- no rule
abbrev pub no_rules : Policy
no_rules = record { rules = 0; fire = λ rule step values. None }

-- the rules in the order of the agenda
abbrev pub agenda_of : AgendaOrder → ℕ → List ℕ
agenda_of HighFirst rules = numbers rules
agenda_of LowFirst rules = reverse (numbers rules)

-- ---- counts and looks since the opening of the timestep

-- the events since the opening, the newest first
abbrev pub since_opening : Log → Log
since_opening [] = []
since_opening (event ∷ log) = if is_opened event then [] else event ∷ since_opening log

abbrev pub count_if : Bool → ℕ → ℕ
count_if test count = if test then count + 1 else count

abbrev pub count : (Event → Bool) → Log → ℕ
count test [] = 0
count test (event ∷ events) = count_if (test event) (count test events)

-- a dispatch of the object
abbrev pub is_dispatch_of : ℕ → Event → Bool
is_dispatch_of object event = is_number object (dispatched_in event)

-- a firing of the rule
abbrev pub is_firing_of : ℕ → Event → Bool
is_firing_of rule event = is_number rule (option_map (λ (firing : Firing). firing.rule) (firing_in event))

-- how often the object was dispatched
abbrev pub dispatches : Log → ℕ → ℕ
dispatches log object = count (is_dispatch_of object) (since_opening log)

-- how often the rule fired
abbrev pub firings : Log → ℕ → ℕ
firings log rule = count (is_firing_of rule) (since_opening log)

-- the newest of these events that is a firing of the rule
abbrev pub newest_firing : ℕ → Log → Option Firing
newest_firing rule [] = None
newest_firing rule (event ∷ events) = if is_firing_of rule event then firing_in event else newest_firing rule events

-- the last firing of the rule, if it fired
abbrev pub last_firing : Log → ℕ → Option Firing
last_firing log rule = newest_firing rule (since_opening log)

-- what it looked at
abbrev pub last_looks : Log → ℕ → Option (List Look)
last_looks log rule = option_map (λ (firing : Firing). firing.looked) (last_firing log rule)

-- ---- which rule is due

abbrev pub is_same_value : Option ℤ → Option ℤ → Bool
is_same_value None None = true
is_same_value None (Some value) = false
is_same_value (Some value) None = false
is_same_value (Some value) (Some other) = int_eq value other

-- the rule hasn't fired, or one of the cells that it looked at now holds another value than was seen; unknown counts as one
abbrev pub is_changed : Cells → Option (List Look) → Bool
is_changed cells None = true
is_changed cells (Some looks) = list_any (λ (look : Look). not (is_same_value look.seen (value_in cells look.cell))) looks

abbrev pub is_due : Cells → Log → ℕ → Bool
is_due cells log rule = is_changed cells (last_looks log rule)

-- the first rule of the agenda that is due
abbrev pub first_due : Draft → Policy → Cells → Log → Option ℕ
first_due basin policy cells log = find (is_due cells log) (agenda_of basin.control.agenda policy.rules)

-- ---- what a rule does

-- a later put is to the same group at the same timestep
abbrev pub is_put_again : Draft → Asked → List Asked → Bool
is_put_again basin put puts = list_any (λ (later : Asked). is_shared basin put.cell later.cell) puts

-- without those that are put again later
abbrev pub last_ones : Draft → List Asked → List Asked
last_ones basin [] = []
last_ones basin (put ∷ puts) = if is_put_again basin put puts then last_ones basin puts else put ∷ last_ones basin puts

-- a put of a rule, as the content that is asked for in a cell
abbrev pub asked_by_rule : ℕ → ℕ → RulePut → Asked
asked_by_rule rule step put = record {
  cell = cell_at put.slot.0 (step + put.ahead);
  content = record { value = put.value; number = rule; writer = Rule (record { 0 = rule }) };
}

-- all that a rule asks for in the run's timesteps
abbrev pub asked_of_rule : Draft → ℕ → ℕ → List RulePut → List Asked
asked_of_rule basin rule step puts =
    filter (λ (put : Asked). nat_le put.cell.step.0 basin.control.stamps.count) (map (asked_by_rule rule step) puts)

-- the event of a firing that ends so
abbrev pub ended : Draft → Cells → ℕ → ℕ → Fire → FireEnd → Event
ended basin cells rule step fire DividesByZero = fault (ZeroDivisor (record { 0 = rule }) (record { 0 = step }))
ended basin cells rule step fire (OutOfRange value) = fault (RuleOutOfRange (record { 0 = rule }) (record { 0 = step }) value)
ended basin cells rule step fire Unknown = fired (record {
  rule = rule;
  step = step;
  is_done = false;
  looked = looks_at cells fire.looked;
  asked = [];
  written = [];
  count = fire.count;
})
ended basin cells rule step fire Done = fired (record {
  rule = rule;
  step = step;
  is_done = true;
  looked = looks_at cells fire.looked;
  asked = asked_of_rule basin rule step fire.puts;
  written = puts_written cells (last_ones basin (asked_of_rule basin rule step fire.puts));
  count = fire.count;
})

-- the event that a firing of the rule is. None follows where its code is stuck
abbrev pub firing_of : Draft → Policy → Cells → ℕ → ℕ → Option Event
firing_of basin policy cells rule step =
    option_map (λ (fire : Fire). ended basin cells rule step fire fire.end) (policy.fire rule step (value_in cells))

-- ---- what follows

-- where no object waits, the first rule that is due fires; where none is due, the timestep is closed
abbrev pub after_objects : Draft → Policy → Cells → Log → ℕ → Option ℕ → Option Event
after_objects basin policy cells log step None = Some (closed step)
after_objects basin policy cells log step (Some rule) =
    if nat_le basin.control.rule_limit (firings log rule)
    then Some (fault (RuleLimit (record { 0 = rule }) (record { 0 = step }) (firings log rule)))
    else firing_of basin policy cells rule step

-- the object that is chosen is dispatched, unless it was as often as it may
abbrev pub asked_next : Draft → Cells → Log → ℕ → ℕ → Event
asked_next basin cells log step object =
    if nat_le basin.control.object_limit (dispatches log object)
    then fault (ObjectLimit (record { 0 = object }) (record { 0 = step }) (dispatches log object))
    else dispatched basin cells object step

-- the event where this object is chosen, or none where none waits
abbrev pub next_of : Draft → Policy → Cells → Log → ℕ → Option ℕ → Option Event
next_of basin policy cells log step None = after_objects basin policy cells log step (first_due basin policy cells log)
next_of basin policy cells log step (Some object) = Some (asked_next basin cells log step object)

-- the event that follows a log in an open timestep: the first object that waits is chosen
abbrev pub next : Draft → Policy → ℕ → Log → Option Event
next basin policy step log = next_of basin policy (cells_of basin log) log step (first_waiting basin log)

-- Small runs of rules, worked out by hand: a data object with slots X and Y, numbers 1 and 2, and a policy for each.
use Rattle.std.specs.Prelude.{ℕ, zero, suc, ◌+◌, ◌==◌, ℤ, pos, ◌+ℤ◌, codes, true, false, List, [], ◌∷◌, ◌++◌, map, Option, Some, None, if◌then◌else◌}
use Rattle.std.specs.Int.{int_max}
use Rattle.rw_base.specs.Quotient.{floor_div}
use Rattle.rw_base.specs.Unit.{plain_number}
use Rattle.rw_base.specs.declared.number.Cell.{Cell}
use Rattle.rw_calendar.specs.Moment.{moment_on}
use Rattle.rw_calendar.specs.declared.step_length.StepLength.TheVariants.{Hours}
use Rattle.rw_model.specs.Draft.{Draft}
use Rattle.rw_model.specs.declared.control.AgendaOrder.{AgendaOrder}
use Rattle.rw_model.specs.declared.control.AgendaOrder.TheVariants.{HighFirst}
use Rattle.rw_model.specs.declared.kind.Kind.TheVariants.{DataObject}
use Rattle.rw_firing.specs.Fire.{Fire}
use Rattle.rw_firing.specs.declared.fire.FireEnd.TheVariants.{Done, Unknown, ZeroDivisor as DividesByZero}
use Rattle.rw_firing.specs.declared.fire.RulePut.{RulePut}
use Rattle.rw_firing.specs.declared.look.Look.{Look}
use Rattle.rw_run.specs.declared.fault.RunFault.TheVariants.{Conflict, ZeroDivisor, ObjectOutOfRange, RuleOutOfRange, ObjectLimit, RuleLimit}
use Rattle.rw_run.specs.Dispatch.{cell_at}
use Rattle.rw_run.specs.Log.{Event, Log, opened, closed, idle, solved, fired, fault}
use Rattle.rw_run.specs.Next.{Policy, asked_by_rule}

-- the data object over so many days, a rule firing at most 20 times in each, and putting up to 30 ahead
abbrev pub data_object_basin : AgendaOrder → ℕ → Draft
data_object_basin order days = record {
  control = record {
    stamps = record { start = moment_on 2020 1 1 0; step_length = Hours 24; count = days };
    agenda = order;
    object_limit = 50;
    rule_limit = 20;
    ahead = 30;
  };
  objects = record {
    name = codes "D";
    kind = DataObject (record { name = codes "X"; dim = plain_number } ∷ record { name = codes "Y"; dim = plain_number } ∷ []);
  } ∷ [];
  links = [];
  bounds = [];
}

-- ---- what rules do

abbrev pub rule_put : ℕ → ℕ → ℤ → RulePut
rule_put slot ahead value = record { slot = record { 0 = slot }; ahead = ahead; value = value }

abbrev pub fired_done : List Cell → List RulePut → ℕ → Option Fire
fired_done looked puts count = Some (record { end = Done; looked = looked; puts = puts; count = count })

abbrev pub unknown_by : List Cell → ℕ → Option Fire
unknown_by looked count = Some (record { end = Unknown; looked = looked; puts = []; count = count })

-- a rule that looks at a slot, and puts a value to another that it makes of what is there
abbrev pub made_from : ℕ → Option ℤ → ℕ → (ℤ → ℤ) → ℕ → Option Fire
made_from from None to make step = unknown_by (cell_at from step ∷ []) 3
made_from from (Some value) to make step = fired_done (cell_at from step ∷ []) (rule_put to 0 (make value) ∷ []) 6

-- a policy of two rules
abbrev pub two_rules : (ℕ → (Cell → Option ℤ) → Option Fire) → (ℕ → (Cell → Option ℤ) → Option Fire) → Policy
two_rules first second =
    record { rules = 2; fire = λ rule step values. if rule == 1 then first step values else second step values }

-- rule 1 raises X to 10 and rule 2 sets it to 0
abbrev pub raises_x : Policy
raises_x = two_rules (λ step values. made_from 1 (values (cell_at 1 step)) 1 (λ x. int_max x (pos 10)) step)
    (λ step values. fired_done [] (rule_put 1 0 (pos 0) ∷ []) 2)

-- rule 1 adds 1 to X and rule 2 sets it to 0
abbrev pub counts_up : Policy
counts_up = two_rules (λ step values. made_from 1 (values (cell_at 1 step)) 1 (λ x. x +ℤ pos 1) step)
    (λ step values. fired_done [] (rule_put 1 0 (pos 0) ∷ []) 2)

-- rule 1 sets X to Y and rule 2 sets Y to 4
abbrev pub followed : Policy
followed = two_rules (λ step values. made_from 2 (values (cell_at 2 step)) 1 (λ y. y) step)
    (λ step values. fired_done [] (rule_put 2 0 (pos 4) ∷ []) 2)

-- rule 1 sets X to 1 and rule 2 sets it to 2
abbrev pub outranked : Policy
outranked = two_rules (λ step values. fired_done [] (rule_put 1 0 (pos 1) ∷ []) 2) (λ step values. fired_done [] (rule_put 1 0 (pos 2) ∷ []) 2)

abbrev pub one_rule : (ℕ → (Cell → Option ℤ) → Option Fire) → Policy
one_rule fire = record { rules = 1; fire = λ rule. fire }

-- the one rule divides 100 by Y and sets X to that
abbrev pub divided : Policy
divided = one_rule (λ step values. made_from 2 (values (cell_at 2 step)) 1 (λ y. floor_div (pos 100) y) step)

-- the one rule sets X of the next day to 7
abbrev pub sets_ahead : Policy
sets_ahead = one_rule (λ step values. fired_done [] (rule_put 1 1 (pos 7) ∷ []) 2)

-- the one rule sets X to 1 and then to 2
abbrev pub put_twice : Policy
put_twice = one_rule (λ step values. fired_done [] (rule_put 1 0 (pos 1) ∷ rule_put 1 0 (pos 2) ∷ []) 4)

-- ---- events

abbrev pub saw : ℕ → ℕ → Option ℤ → List Look
saw slot step value = record { cell = cell_at slot step; seen = value } ∷ []

-- a rule fired to its end: what it looked at, what it asked for, and what of that was written
abbrev pub did : ℕ → ℕ → List Look → List RulePut → List RulePut → ℕ → Event
did rule step looked asked written count = fired (record {
  rule = rule;
  step = step;
  is_done = true;
  looked = looked;
  asked = map (asked_by_rule rule step) asked;
  written = map (asked_by_rule rule step) written;
  count = count;
})

-- it met an unknown value
abbrev pub stopped : ℕ → ℕ → List Look → Event
stopped rule step looked =
    fired (record { rule = rule; step = step; is_done = false; looked = looked; asked = []; written = []; count = 3 })

abbrev pub x_to : ℤ → List RulePut
x_to value = rule_put 1 0 value ∷ []

-- a rule that met an unknown value fires again once another rule has set it, and once more after its own put, which then finds the
-- value there
abbrev pub raised_on : ℕ → List Event
raised_on step =
    opened step ∷
    stopped 1 step (saw 1 step None) ∷
    did 2 step [] (x_to (pos 0)) (x_to (pos 0)) 2 ∷
    did 1 step (saw 1 step (Some (pos 0))) (x_to (pos 10)) (x_to (pos 10)) 6 ∷
    did 1 step (saw 1 step (Some (pos 10))) (x_to (pos 10)) [] 6 ∷
    closed step ∷ []

abbrev pub raised_run : List Event
raised_run = raised_on 1

-- so many firings, each of which sees what the one before it set
abbrev pub climbing : ℕ → ℕ → List Event
climbing x zero = []
climbing x (suc times) =
    did 1 1 (saw 1 1 (Some (pos x))) (x_to (pos (x + 1))) (x_to (pos (x + 1))) 6 ∷ climbing (x + 1) times

-- a rule that changes what it looked at fires again and again, up to its limit. The agenda begins with rule 2
abbrev pub counted_run : List Event
counted_run =
    opened 1 ∷
    did 2 1 [] (x_to (pos 0)) (x_to (pos 0)) 2 ∷
    (climbing 0 20 ++ fault (RuleLimit (record { 0 = 1 }) (record { 0 = 1 }) 20) ∷ [])

-- what another rule sets makes a rule due that looked at it, and nothing else does
abbrev pub followed_run : List Event
followed_run =
    opened 1 ∷
    stopped 1 1 (saw 2 1 None) ∷
    did 2 1 [] (rule_put 2 0 (pos 4) ∷ []) (rule_put 2 0 (pos 4) ∷ []) 2 ∷
    did 1 1 (saw 2 1 (Some (pos 4))) (x_to (pos 4)) (x_to (pos 4)) 6 ∷
    closed 1 ∷ []

-- a put of a lower rule over a value of a higher one is denied, and dropped
abbrev pub outranked_run : List Event
outranked_run =
    opened 1 ∷ did 1 1 [] (x_to (pos 1)) (x_to (pos 1)) 2 ∷ did 2 1 [] (x_to (pos 2)) [] 2 ∷ closed 1 ∷ []

-- Y is given as 3 on the first day, and on the second it is unknown
abbrev pub three : List (Cell × ℤ)
three = (cell_at 2 1, pos 3) ∷ []

abbrev pub divided_run : List Event
divided_run =
    opened 1 ∷ did 1 1 (saw 2 1 (Some (pos 3))) (x_to (pos 33)) (x_to (pos 33)) 6 ∷ closed 1 ∷
    opened 2 ∷ stopped 1 2 (saw 2 2 None) ∷ closed 2 ∷ []

-- a put ahead is to the cell of that day, and one past the last day is left out
abbrev pub first_of_ahead : List Event
first_of_ahead = opened 1 ∷ did 1 1 [] (rule_put 1 1 (pos 7) ∷ []) (rule_put 1 1 (pos 7) ∷ []) 2 ∷ []

abbrev pub ahead_run : List Event
ahead_run =
    first_of_ahead ++ closed 1 ∷
    opened 2 ∷ did 1 2 [] (rule_put 1 1 (pos 7) ∷ []) (rule_put 1 1 (pos 7) ∷ []) 2 ∷ closed 2 ∷
    opened 3 ∷ did 1 3 [] [] [] 2 ∷ closed 3 ∷ []

-- of two puts of one firing to a cell the later one counts
abbrev pub put_twice_run : List Event
put_twice_run =
    opened 1 ∷ did 1 1 [] (x_to (pos 1) ++ x_to (pos 2)) (x_to (pos 2)) 4 ∷ closed 1 ∷ []

-- X is given as 5
abbrev pub five : List (Cell × ℤ)
five = (cell_at 1 1, pos 5) ∷ []

-- no rule changes a value that was given
abbrev pub given_run : List Event
given_run = opened 1 ∷ did 1 1 [] (x_to (pos 1) ++ x_to (pos 2)) [] 4 ∷ closed 1 ∷ []

-- ---- a link

-- two data objects, each with one slot, X and Y, which a link joins
abbrev pub linked_basin : Draft
linked_basin = record {
  control = (data_object_basin HighFirst 1).control;
  objects = record { name = codes "D"; kind = DataObject (record { name = codes "X"; dim = plain_number } ∷ []) } ∷
      record { name = codes "E"; kind = DataObject (record { name = codes "Y"; dim = plain_number } ∷ []) } ∷ [];
  links = (1 ∷ 2 ∷ []) ∷ [];
  bounds = [];
}

-- rule 1 raises Y to 10 and rule 2 sets X to 0
abbrev pub across : Policy
across = two_rules (λ step values. made_from 2 (values (cell_at 2 step)) 2 (λ y. int_max y (pos 10)) step)
    (λ step values. fired_done [] (rule_put 1 0 (pos 0) ∷ []) 2)

-- a put to one of two linked slots makes a rule due that looked at the other
abbrev pub across_run : List Event
across_run =
    opened 1 ∷
    stopped 1 1 (saw 2 1 None) ∷
    did 2 1 [] (x_to (pos 0)) (x_to (pos 0)) 2 ∷
    did 1 1 (saw 2 1 (Some (pos 0))) (rule_put 2 0 (pos 10) ∷ []) (rule_put 2 0 (pos 10) ∷ []) 6 ∷
    did 1 1 (saw 2 1 (Some (pos 10))) (rule_put 2 0 (pos 10) ∷ []) [] 6 ∷
    closed 1 ∷ []

-- the one rule sets X to 1 and Y to 2
abbrev pub both_ends : Policy
both_ends = one_rule (λ step values. fired_done [] (rule_put 1 0 (pos 1) ∷ rule_put 2 0 (pos 2) ∷ []) 4)

-- of two puts to linked slots the later one counts
abbrev pub both_ends_run : List Event
both_ends_run =
    opened 1 ∷ did 1 1 [] (rule_put 1 0 (pos 1) ∷ rule_put 2 0 (pos 2) ∷ []) (rule_put 2 0 (pos 2) ∷ []) 4 ∷ closed 1 ∷ []

-- a put to one of them reaches both
abbrev pub one_end_run : List Event
one_end_run = opened 1 ∷ did 1 1 [] (x_to (pos 1)) (x_to (pos 1)) 2 ∷ closed 1 ∷ []

-- ---- runs of one policy for two inputs

-- nothing is given over two days
abbrev pub raised_twice : List Event
raised_twice = raised_on 1 ++ raised_on 2

-- X is given as 5 on the first day, which no rule changes. The second goes as before
abbrev pub given_once : List Event
given_once =
    opened 1 ∷ did 1 1 (saw 1 1 (Some (pos 5))) (x_to (pos 10)) [] 6 ∷ did 2 1 [] (x_to (pos 0)) [] 2 ∷ closed 1 ∷ raised_on 2

-- the one rule sets X to 7, of this day and of the next
abbrev pub both_days : Policy
both_days = one_rule (λ step values. fired_done [] (rule_put 1 0 (pos 7) ∷ rule_put 1 1 (pos 7) ∷ []) 4)

-- what it puts to the next day is there on that day, and stays, so that the put of that day has nothing to do
abbrev pub both_days_run : List Event
both_days_run =
    opened 1 ∷ did 1 1 [] (x_to (pos 7) ++ rule_put 1 1 (pos 7) ∷ []) (x_to (pos 7) ++ rule_put 1 1 (pos 7) ∷ []) 4 ∷ closed 1 ∷
    opened 2 ∷ did 1 2 [] (x_to (pos 7)) [] 4 ∷ closed 2 ∷ []

-- X of the second day is given as 7: the value that the rule puts, but not its number nor its writer
abbrev pub seven : List (Cell × ℤ)
seven = (cell_at 1 2, pos 7) ∷ []

abbrev pub given_seven_run : List Event
given_seven_run =
    opened 1 ∷ did 1 1 [] (x_to (pos 7) ++ rule_put 1 1 (pos 7) ∷ []) (x_to (pos 7)) 4 ∷ closed 1 ∷
    opened 2 ∷ did 1 2 [] (x_to (pos 7)) [] 4 ∷ closed 2 ∷ []

-- the one rule looks at X, and divides by 0 where that is unknown
abbrev pub seen_or_fault : ℕ → Option ℤ → Option Fire
seen_or_fault step None = Some (record { end = DividesByZero; looked = cell_at 1 step ∷ []; puts = []; count = 3 })
seen_or_fault step (Some value) = fired_done (cell_at 1 step ∷ []) [] 3

abbrev pub needy : Policy
needy = one_rule (λ step values. seen_or_fault step (values (cell_at 1 step)))

-- nothing is given, so that the first day is never closed
abbrev pub faulty_run : List Event
faulty_run = opened 1 ∷ fault (ZeroDivisor (record { 0 = 1 }) (record { 0 = 1 })) ∷ []

-- X is given as 5 on the first day, so that the second is opened
abbrev pub needy_run : List Event
needy_run =
    opened 1 ∷ did 1 1 (saw 1 1 (Some (pos 5))) [] [] 3 ∷ closed 1 ∷
    opened 2 ∷ fault (ZeroDivisor (record { 0 = 1 }) (record { 0 = 2 })) ∷ []

-- ---- a timestep within a log

-- one event of each kind, of this timestep; objects, rules and slots have other numbers
abbrev pub one_of_each : ℕ → Log
one_of_each step =
    fault (Conflict (record { 0 = 7 }) (record { 0 = 8 }) (record { 0 = step }) (pos 0) (pos 1)) ∷
    fault (ZeroDivisor (record { 0 = 7 }) (record { 0 = step })) ∷
    fault (ObjectOutOfRange (record { 0 = 7 }) (record { 0 = 8 }) (record { 0 = step }) (pos 0)) ∷
    fault (RuleOutOfRange (record { 0 = 7 }) (record { 0 = step }) (pos 0)) ∷
    fault (ObjectLimit (record { 0 = 7 }) (record { 0 = step }) 9) ∷
    fault (RuleLimit (record { 0 = 7 }) (record { 0 = step }) 9) ∷
    closed step ∷
    fired (record { rule = 7; step = step; is_done = true; looked = []; asked = []; written = []; count = 9 }) ∷
    solved (record { object = 7; step = step; looked = []; asked = []; written = [] }) ∷
    idle 7 step [] ∷
    opened step ∷ []

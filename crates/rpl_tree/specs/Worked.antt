-- Small rules, worked out by hand.
use Rattle.std.specs.Prelude.{ℕ, ◌==◌, ℤ, pos, codes, false, List, [], ◌∷◌, map, Option, Some, None, if◌then◌else◌}
use Rattle.rw_base.specs.Unit.{plain_number}
use Rattle.rw_base.specs.declared.number.Cell.{Cell}
use Rattle.rw_calendar.specs.Moment.{moment_on}
use Rattle.rw_calendar.specs.declared.step_length.StepLength.TheVariants.{Hours}
use Rattle.rw_model.specs.Draft.{Draft}
use Rattle.rw_model.specs.Objects.{Object}
use Rattle.rw_model.specs.Slot.{flow_unit}
use Rattle.rw_model.specs.declared.control.AgendaOrder.TheVariants.{HighFirst}
use Rattle.rw_model.specs.declared.kind.Kind.TheVariants.{Canal, DataObject, Reservoir}
use Rattle.rw_firing.specs.Fire.{Fire}
use Rattle.rw_firing.specs.declared.fire.RulePut.{RulePut}
use Rattle.rw_firing.specs.declared.fire.FireEnd.{FireEnd}
use Rattle.rw_firing.specs.declared.fire.FireEnd.TheVariants.{Done, Unknown}
use Rattle.rpl_tree.specs.declared.words.OneWord.TheVariants.{Minus, Length}
use Rattle.rpl_tree.specs.declared.words.TwoWord.TheVariants.{Item, Plus, Minus as Less_by, Times, Divide, Append}
use Rattle.rpl_tree.specs.Tree.{numeric, numeric_list, Tree, Trees, literal, now, slot, name, call, list, choice, each, mapped, one, two, at, no_trees, tree, Act, Acts, assign, no_acts, act, Declared, rule, function}
use Rattle.rpl_tree.specs.World.{cell_of, put_to}
use Rattle.rpl_tree.specs.Mean.{mean}

-- ---- basins

-- these objects over so many days from the 1st of January 2020 on
abbrev pub basin_over_days : ℕ → List Object → Draft
basin_over_days days objects = record {
  control = record {
    stamps = record { start = moment_on 2020 1 1 0; step_length = Hours 24; count = days };
    agenda = HighFirst;
    object_limit = 50;
    rule_limit = 20;
    ahead = 0;
  };
  objects = objects;
  links = [];
  bounds = [];
}

-- the basin, where rules put up to so many days ahead
abbrev pub putting_ahead : ℕ → Draft → Draft
putting_ahead most basin = let control = basin.control in record basin { control = record control { ahead = most } }

-- a reservoir that begins with 1000 m3; its slots are Inflow, Outflow and Storage
abbrev pub dam : Object
dam = record { name = codes "Dam"; kind = Reservoir (pos 1000) None false false false false None }

-- a data object with plain numbers X and Y
abbrev pub numbers_object : Object
numbers_object = record {
  name = codes "D";
  kind = DataObject (record { name = codes "X"; dim = plain_number } ∷ record { name = codes "Y"; dim = plain_number } ∷ []);
}

-- a data object with a flow X
abbrev pub flow_object : Object
flow_object = record { name = codes "D"; kind = DataObject (record { name = codes "X"; dim = flow_unit } ∷ []) }

-- a reservoir of 250 m3 with a table: 0 m3 at 0 mm, 500 m3 at 1000 mm, 2500 m3 at 3000 mm
abbrev pub pool : Object
pool = record {
  name = codes "Pool";
  kind = Reservoir (pos 250) (Some ((pos 0, pos 0) ∷ (pos 1000, pos 500) ∷ (pos 3000, pos 2500) ∷ [])) false false false false None;
}

-- a canal, whose slot Seepage its method derives
abbrev pub canal : Object
canal = record { name = codes "Canal"; kind = Canal 100 }

-- ---- values of cells

-- nothing is known
abbrev pub unknown_cells : Cell → Option ℤ
unknown_cells cell = None

-- one value in all cells
abbrev pub all_cells : ℤ → Cell → Option ℤ
all_cells z cell = Some z

-- one value at a slot and no other
abbrev pub only_slot : ℕ → ℤ → Cell → Option ℤ
only_slot s z cell = if cell.slot.0 == s then Some z else None

-- ---- expressions

abbrev pub whole : ℤ → Tree
whole n = literal n None

abbrev pub of_unit : ℤ → List ℕ → Tree
of_unit n unit = literal n (Some unit)

-- `Object.Slot[t]`
abbrev pub at_now : List ℕ → List ℕ → Tree
at_now o s = at (slot o s) now

abbrev pub x_now : Tree
x_now = at_now (codes "D") (codes "X")

abbrev pub y_now : Tree
y_now = at_now (codes "D") (codes "Y")

-- `Pool.Storage[t - 1]` and `Pool.Storage[t + 1]`
abbrev pub storage_before : Tree
storage_before = at (slot (codes "Pool") (codes "Storage")) (two Less_by now (whole (pos 1)))

abbrev pub storage_after : Tree
storage_after = at (slot (codes "Pool") (codes "Storage")) (two Plus now (whole (pos 1)))

abbrev pub trees_from : List Tree → Trees
trees_from [] = no_trees
trees_from (t ∷ ts) = tree t (trees_from ts)

-- `n`, `s` and `l`
abbrev pub n_name : Tree
n_name = name (codes "n")

abbrev pub s_name : Tree
s_name = name (codes "s")

abbrev pub l_name : Tree
l_name = name (codes "l")

-- `IF c THEN 1 ELSE 2 ENDIF`
abbrev pub one_else_two : Tree → Tree
one_else_two c = choice c (whole (pos 1)) (whole (pos 2))

-- `1 / n`
abbrev pub part_of_n : Tree
part_of_n = two Divide (whole (pos 1)) n_name

-- `{a, b}`
abbrev pub pair : ℤ → ℤ → Tree
pair a b = list (trees_from (whole a ∷ whole b ∷ []))

-- `APPEND({7, 8}, 9)`
abbrev pub three_numbers : Tree
three_numbers = two Append (pair (pos 7) (pos 8)) (whole (pos 9))

-- `FOR n IN l WITH s := 0 DO e ENDFOR`
abbrev pub loop_over : Tree → Tree → Tree
loop_over l e = each (codes "n") l (codes "s") (whole (pos 0)) e

-- `MAP n IN l DO n * 2 ENDMAP`
abbrev pub twice_each : Tree → Tree
twice_each l = mapped (codes "n") l (two Times n_name (whole (pos 2)))

-- `n + 1`
abbrev pub one_more : Tree
one_more = two Plus n_name (whole (pos 1))

-- `ITEM(l, 1)`
abbrev pub first_of_l : Tree
first_of_l = two Item l_name (whole (pos 1))

-- `FOR n IN l WITH n := 0 DO n + 1 ENDFOR`
abbrev pub turns_of_one_name : Tree → Tree
turns_of_one_name l = each (codes "n") l (codes "n") (whole (pos 0)) one_more

-- `FOR n IN {D.X, D.Y} WITH s := 0 DO s + n[t] ENDFOR`
abbrev pub sum_of_slots : Tree
sum_of_slots =
    loop_over (list (trees_from (slot (codes "D") (codes "X") ∷ slot (codes "D") (codes "Y") ∷ []))) (two Plus s_name (at n_name now))

-- a call with these numbers
abbrev pub call_with_numbers : List ℕ → List ℤ → Tree
call_with_numbers f zs = call f (trees_from (map whole zs))

-- ---- rules

-- `Object.Slot[t] := e;`
abbrev pub puts_at : List ℕ → List ℕ → Tree → Act
puts_at o s e = assign o s (pos 0) e

abbrev pub acts_from : List Act → Acts
acts_from [] = no_acts
acts_from (a ∷ rest) = act a (acts_from rest)

-- a rule of these statements
abbrev pub rule_of : List Act → Declared
rule_of statements = rule (codes "rule") (acts_from statements)

-- `D.X[t] := e;` and `D.Y[t] := e;`
abbrev pub x_put : Tree → Act
x_put e = puts_at (codes "D") (codes "X") e

abbrev pub y_put : Tree → Act
y_put e = puts_at (codes "D") (codes "Y") e

-- `D.X[t] := 1;` alone
abbrev pub one_to_x : Acts
one_to_x = acts_from (x_put (whole (pos 1)) ∷ [])

-- `D.X[t] := n;` alone
abbrev pub n_to_x : Acts
n_to_x = acts_from (x_put n_name ∷ [])

-- `D.X[t] := e;` as the one rule
abbrev pub x_rule : Tree → List Declared
x_rule e = rule_of (x_put e ∷ []) ∷ []

-- `D.X[t + n] := e;`
abbrev pub x_put_ahead : ℤ → Tree → Act
x_put_ahead n e = assign (codes "D") (codes "X") n e

abbrev pub x_ahead_rule : ℤ → Tree → List Declared
x_ahead_rule n e = rule_of (x_put_ahead n e ∷ []) ∷ []

-- `Dam.Outflow[t] := -1;` and `Canal.Seepage[t] := 1;`
abbrev pub negative_outflow : List Declared
negative_outflow = rule_of (puts_at (codes "Dam") (codes "Outflow") (one Minus (whole (pos 1))) ∷ []) ∷ []

abbrev pub seepage_set : List Declared
seepage_set = rule_of (puts_at (codes "Canal") (codes "Seepage") (whole (pos 1)) ∷ []) ∷ []

-- `Dam.Storage[t] := Min(Dam.Storage[t], 1020 "m3");` and `Dam.Outflow[t] := 50 "m3/step";`
abbrev pub cap_and_base : List Declared
cap_and_base =
    rule_of (puts_at (codes "Dam") (codes "Storage")
    (call (codes "Min") (trees_from (at_now (codes "Dam") (codes "Storage") ∷ of_unit (pos 1020) (codes "m3") ∷ []))) ∷ []) ∷
    rule_of (puts_at (codes "Dam") (codes "Outflow") (of_unit (pos 50) (codes "m3/step")) ∷ []) ∷
    []

-- `D.X[t] := Max(D.X[t], 10);` and `D.X[t] := 0;`
abbrev pub raise_and_reset : List Declared
raise_and_reset =
    rule_of (x_put (call (codes "Max") (trees_from (x_now ∷ whole (pos 10) ∷ []))) ∷ []) ∷
    rule_of (x_put (whole (pos 0)) ∷ []) ∷
    []

-- `D.X[t] := 100 / D.Y[t];`
abbrev pub hundredth : List Declared
hundredth = x_rule (two Divide (whole (pos 100)) y_now)

-- `Dam.Inflow[t + n]`
abbrev pub ahead_of_n : Tree
ahead_of_n = at (slot (codes "Dam") (codes "Inflow")) (two Plus now n_name)

-- `FUNCTION Ahead(NUMERIC "step" n) : NUMERIC "m3/step" IS Dam.Inflow[t + n] ENDFUNCTION`
abbrev pub ahead : Declared
ahead = function (codes "Ahead") (record { name = codes "n"; of_type = numeric (codes "step") } ∷ []) (numeric (codes "m3/step")) ahead_of_n

-- `{0 "step", 1 "step"}`
abbrev pub step_pair : Tree
step_pair = list (trees_from (of_unit (pos 0) (codes "step") ∷ of_unit (pos 1) (codes "step") ∷ []))

-- `Ahead(n)` and `s + Ahead(n)`
abbrev pub call_of_ahead : Tree
call_of_ahead = call (codes "Ahead") (trees_from (n_name ∷ []))

abbrev pub ahead_now : Tree
ahead_now = two Plus s_name call_of_ahead

-- `FOR n IN {0 "step", 1 "step"} WITH s := 0 "m3/step" DO s + Ahead(n) ENDFOR`
abbrev pub sum_loop : Tree
sum_loop = each (codes "n") step_pair (codes "s") (of_unit (pos 0) (codes "m3/step")) ahead_now

-- `D.X[t] :=` that loop `;`
abbrev pub sum : Declared
sum = rule_of (x_put sum_loop ∷ [])

abbrev pub sum_ahead : List Declared
sum_ahead = ahead ∷ sum ∷ []

-- the function after the rule that calls it
abbrev pub sum_too_early : List Declared
sum_too_early = sum ∷ ahead ∷ []

-- `FUNCTION Count(LIST 3 OF NUMERIC "" l, NUMERIC "" n) : NUMERIC "" IS LENGTH(l) ENDFUNCTION`
abbrev pub count_function : Declared
count_function = function (codes "Count")
    (record { name = codes "l"; of_type = numeric_list (pos 3) [] } ∷ record { name = codes "n"; of_type = numeric [] } ∷ [])
    (numeric []) (one Length l_name)

-- `FUNCTION Both() : LIST 3 OF NUMERIC "" IS {7, 8} ENDFUNCTION`
abbrev pub both_function : Declared
both_function = function (codes "Both") [] (numeric_list (pos 3) []) (pair (pos 7) (pos 8))

-- both functions, and `D.X[t] := e;`
abbrev pub with_functions : Tree → List Declared
with_functions e = count_function ∷ both_function ∷ rule_of (x_put e ∷ []) ∷ []

-- `Count({7, 8}, e)`
abbrev pub count_call : Tree → Tree
count_call e = call (codes "Count") (trees_from (pair (pos 7) (pos 8) ∷ e ∷ []))

-- `LENGTH(Both())`
abbrev pub both_call : Tree
both_call = one Length (call (codes "Both") no_trees)

-- ---- firings

abbrev pub fire : FireEnd → List Cell → List RulePut → ℕ → Option Fire
fire end looked puts count = Some (record { end = end; looked = looked; puts = puts; count = count })

-- a rule that came to its end with one put
abbrev pub done_by : List Cell → ℕ → ℤ → ℕ → Option Fire
done_by looked s z count = fire Done looked (put_to s z ∷ []) count

-- a rule that ended before
abbrev pub ended_early : FireEnd → List Cell → ℕ → Option Fire
ended_early end looked count = fire end looked [] count

-- what the first rule does at the first of two days of the data object with plain numbers
abbrev pub rules_do : List Declared → (Cell → Option ℤ) → Option Fire
rules_do rules values = mean rules (basin_over_days 2 (numbers_object ∷ [])) 1 1 values

-- what the rule `D.X[t + n] := 7;` does there, where rules put up to so many days ahead
abbrev pub x_ahead_by : ℕ → ℤ → Option Fire
x_ahead_by most n = mean (x_ahead_rule n (whole (pos 7))) (putting_ahead most (basin_over_days 2 (numbers_object ∷ []))) 1 1 unknown_cells

-- what the rule `D.X[t] := e;` does there, where nothing is known
abbrev pub x_by : Tree → Option Fire
x_by e = rules_do (x_rule e) unknown_cells

-- what the rule of these statements does there, and what `D.X[t] := e;` does beside the two functions
abbrev pub acts_do : List Act → Option Fire
acts_do statements = rules_do (rule_of statements ∷ []) unknown_cells

abbrev pub called_by : Tree → Option Fire
called_by e = rules_do (with_functions e) unknown_cells

-- X was set to this, nothing was looked at, and it counted so much
abbrev pub x_is : ℤ → ℕ → Option Fire
x_is z count = done_by [] 1 z count

-- it ended, and nothing was looked at
abbrev pub x_ends : FireEnd → ℕ → Option Fire
x_ends end count = ended_early end [] count

-- it ended at the look at Y
abbrev pub x_wants_y : ℕ → Option Fire
x_wants_y count = ended_early Unknown (cell_of 2 1 ∷ []) count

-- what the rule does at a timestep of 40 days of the data object and the pool, where nothing is known
abbrev pub pool_by : ℕ → Tree → Option Fire
pool_by step e = mean (x_rule e) (basin_over_days 40 (numbers_object ∷ pool ∷ [])) 1 step unknown_cells

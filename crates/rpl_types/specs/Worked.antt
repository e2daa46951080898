-- Small rulesets, worked out by hand, that are accepted or refused.
use Rattle.std.specs.Prelude.{ℕ, ℤ, pos, codes, List, [], ◌∷◌, ◌++◌, Option, Some, Result, Ok, Err}
use Rattle.rw_base.specs.Dimension.{Dimension}
use Rattle.rw_base.specs.Unit.{length, plain_number, volume, timestep}
use Rattle.rw_model.specs.Draft.{Draft}
use Rattle.rw_model.specs.Slot.{flow_unit}
use Rattle.rpl_tree.specs.declared.words.TwoWord.TheVariants.{Plus, Times}
use Rattle.rpl_tree.specs.Tree.{numeric, numeric_list, Tree, name, slot, each, two, Act, Parameter, Declared, function}
use Rattle.rpl_tree.specs.Worked.{at_now, basin_over_days, call_with_numbers, canal, dam, flow_object, l_name, n_name, numbers_object, of_unit, pool, putting_ahead, puts_at, rule_of, s_name, whole, x_ahead_rule, x_rule}
use Rattle.rpl_tree.specs.declared.rpl_type.RplType.{RplType}
use Rattle.rpl_tree.specs.declared.rpl_type.RplType.TheVariants.{Datetime, Numeric, NumericList, Slot}
use Rattle.rpl_types.specs.declared.type_kind.TypeKind.{TypeKind}
use Rattle.rpl_types.specs.Forms.{plain}
use Rattle.rpl_types.specs.Nodes.{Types}
use Rattle.rpl_types.specs.Judged.{TypeRefusal, rules_judged, type_refusal}

-- a dam without a table, two plain numbers, a pool with a table, and a canal, whose slot Seepage its method derives
abbrev pub worked_basin : Draft
worked_basin = basin_over_days 3 (dam ∷ numbers_object ∷ pool ∷ canal ∷ [])

abbrev pub TypesOrRefusal : Type 0
TypesOrRefusal = Result (List Types) TypeRefusal

abbrev pub refused : TypeKind → ℕ → ℕ → TypesOrRefusal
refused kind declaration node = Err (type_refusal kind declaration node)

-- one declaration with these types of its nodes
abbrev pub accepted : Types → TypesOrRefusal
accepted types = Ok (types ∷ [])

-- what is answered to the rule of these statements
abbrev pub judged_acts : List Act → TypesOrRefusal
judged_acts acts = rules_judged worked_basin (rule_of acts ∷ [])

-- what is answered to `D.X[t] := e;`, where e is node 2
abbrev pub judged_x : Tree → TypesOrRefusal
judged_x e = rules_judged worked_basin (x_rule e)

-- what is answered to `D.X[t + n] := 7;`, where rules put up to so many days ahead
abbrev pub judged_ahead : ℕ → ℤ → TypesOrRefusal
judged_ahead most n = rules_judged (putting_ahead most worked_basin) (x_ahead_rule n (whole (pos 7)))

-- what is answered to `Object.Slot[t] := e;`
abbrev pub judged_put : List ℕ → List ℕ → Tree → TypesOrRefusal
judged_put o s e = judged_acts (puts_at o s e ∷ [])

-- ---- functions

abbrev pub number_param : List ℕ → Parameter
number_param x = record { name = x; of_type = numeric [] }

-- `FUNCTION f(params) : NUMERIC "" IS e ENDFUNCTION`
abbrev pub declared_number_function : List ℕ → List Parameter → Tree → Declared
declared_number_function f params e = function f params (numeric []) e

-- `FUNCTION f(LIST m OF NUMERIC "unit" l) : NUMERIC "" IS e ENDFUNCTION`
abbrev pub list_function : List ℕ → ℤ → List ℕ → Tree → Declared
list_function f m unit e = declared_number_function f (record { name = codes "l"; of_type = numeric_list m unit } ∷ []) e

-- `FUNCTION F(LIST m OF NUMERIC "" l) : NUMERIC "" IS 1 ENDFUNCTION`
abbrev pub function_of_list : ℕ → Declared
function_of_list m = list_function (codes "F") (pos m) [] (whole (pos 1))

-- `FUNCTION Twice(NUMERIC "" n) : NUMERIC "" IS n + n ENDFUNCTION`
abbrev pub twice : Declared
twice = declared_number_function (codes "Twice") (number_param (codes "n") ∷ []) (two Plus n_name n_name)

-- `Twice(1)`
abbrev pub twice_call : Tree
twice_call = call_with_numbers (codes "Twice") (pos 1 ∷ [])

-- what is answered to these functions and then `D.X[t] := e;`
abbrev pub judged_with : List Declared → Tree → TypesOrRefusal
judged_with functions e = rules_judged worked_basin (functions ++ x_rule e)

-- `FOR x IN l WITH s := 0 DO FOR y IN l WITH r := s DO r + 1 ENDFOR ENDFOR`
abbrev pub nested_loops : Tree
nested_loops =
    each (codes "x") l_name (codes "s") (whole (pos 0))
    (each (codes "y") l_name (codes "r") s_name (two Plus (name (codes "r")) (whole (pos 1))))

-- ---- types

abbrev pub a_volume : Option RplType
a_volume = Some (Numeric volume)

abbrev pub a_flow : Option RplType
a_flow = Some (Numeric flow_unit)

abbrev pub a_count : Option RplType
a_count = Some plain

abbrev pub a_step : Option RplType
a_step = Some (Numeric timestep)

-- `Dam.Storage[t] := Dam.Storage[t] + e;`
abbrev pub added_to_storage : Tree → TypesOrRefusal
added_to_storage e = judged_put (codes "Dam") (codes "Storage") (two Plus (at_now (codes "Dam") (codes "Storage")) e)

abbrev pub inflow_now : Tree
inflow_now = at_now (codes "Dam") (codes "Inflow")

-- `D.X`, which holds plain numbers, and `Dam.Inflow`, as slots
abbrev pub x_slot_tree : Tree
x_slot_tree = slot (codes "D") (codes "X")

abbrev pub inflow_slot : Tree
inflow_slot = slot (codes "Dam") (codes "Inflow")

-- `Pool.Storage[t]`
abbrev pub pool_storage : Tree
pool_storage = at_now (codes "Pool") (codes "Storage")

-- `Object.Slot[t]` as types of nodes: its value, the slot, the date
abbrev pub look_types : Dimension → Types
look_types d = Some (Numeric d) ∷ Some (Slot d) ∷ Some Datetime ∷ []

abbrev pub dam_flow_basin : Draft
dam_flow_basin = basin_over_days 3 (dam ∷ flow_object ∷ [])

-- `1 "step"`
abbrev pub one_timestep : Tree
one_timestep = of_unit (pos 1) (codes "step")

-- `1 "m"`, its third power, and its type
abbrev pub metre : Tree
metre = of_unit (pos 1) (codes "m")

abbrev pub cubed : Tree
cubed = two Times (two Times metre metre) metre

abbrev pub a_length : Option RplType
a_length = Some (Numeric length)

-- a list of so many plain numbers
abbrev pub plain_numbers : ℕ → Option RplType
plain_numbers m = Some (NumericList m plain_number)

-- Worked codes.
use Rattle.std.specs.Prelude.{ℕ, zero, suc, ◌+◌, ℤ, length, pos, codes, false, List, [], ◌∷◌, ◌++◌, replicate, flat_map, Option, Some, None, Result, Ok, IsSomeAnd, option_map}
use Rattle.rw_model.specs.Draft.{Draft}
use Rattle.rw_model.specs.Objects.{numbered}
use Rattle.rw_model.specs.declared.kind.Kind.TheVariants.{Reservoir}
use Rattle.rw_base.specs.declared.number.Cell.{Cell}
use Rattle.rw_firing.specs.Fire.{Fire}
use Rattle.rpl_code.specs.declared.kind.ValueKind.{ValueKind}
use Rattle.rpl_code.specs.declared.kind.ValueKind.TheVariants as K
use Rattle.rpl_code.specs.declared.instruction.Instruction.{Instruction}
use Rattle.rpl_code.specs.declared.instruction.Instruction.TheVariants as I
use Rattle.rpl_code.specs.declared.block.BlockHead.TheVariants.{Rule, Function}
use Rattle.rpl_code.specs.declared.block.Block.{Block}
use Rattle.rpl_code.specs.Worked.{plain_rule}
use Rattle.rpl_tree.specs.Budget.{Budget, budget}
use Rattle.rpl_tree.specs.Worked.{basin_over_days, dam, flow_object, numbers_object, pool, putting_ahead, unknown_cells}
use Rattle.rpl_verify.specs.declared.resolved.Resolved.{Resolved}
use Rattle.rpl_verify.specs.declared.verify_kind.VerifyKind.{VerifyKind}
use Rattle.rpl_verify.specs.Names.{Scope}
use Rattle.rpl_verify.specs.Fits.{Misplaced, Refusal, before, befores, first_code_refusal, refusal, scope_of, then_do}
use Rattle.rpl_verify.specs.Budget.{count_of, looks_of, puts_of, ruling}
use Rattle.rpl_verify.specs.Ways.{IsWay, sum_on, words_on}
use Rattle.rpl_tree.specs.World.{World}
use Rattle.rpl_verify.specs.Machine.{fire_of_code, first_frame}
use Rattle.rpl_verify.specs.Resolved.{resolved_block}
use Rattle.rpl_verify.specs.Safety.{firing_from, look_count_in, most_words, puts_from}

-- ---- basins of one day

-- a reservoir that begins with 1000 m3; its slots are Inflow, Outflow and Storage
abbrev pub one_dam : Draft
one_dam = basin_over_days 1 (dam ∷ [])

-- a reservoir that releases at most 60, whose method derives what it spills
abbrev pub spilling_dam : Draft
spilling_dam =
    basin_over_days 1 (record { name = codes "Dam"; kind = Reservoir (pos 1000) None false false false false (Some (pos 60)) } ∷ [])

-- ---- blocks

abbrev pub rule_with : List ValueKind → List Instruction → Block
rule_with locals lines = record { head = Rule; locals = locals; lines = lines }

abbrev pub function_with : List ValueKind → ValueKind → List ValueKind → List Instruction → Block
function_with parameters result locals lines =
    record { head = Function result parameters; locals = locals; lines = lines }

-- a function of no parameters, whose result is a number
abbrev pub number_function : List Instruction → Block
number_function lines = function_with [] K.N [] lines

abbrev pub number : ℕ → Instruction
number n = I.Num (pos n)

-- `put Dam.Outflow n`
abbrev pub put_outflow : ℕ → Instruction
put_outflow ahead = I.Put (codes "Dam") (codes "Outflow") ahead

abbrev pub x_slot : Instruction
x_slot = I.Slot (codes "D") (codes "X")

abbrev pub y_slot : Instruction
y_slot = I.Slot (codes "D") (codes "Y")

abbrev pub put_x : Instruction
put_x = I.Put (codes "D") (codes "X") 0

abbrev pub put_spill : ℕ → Instruction
put_spill ahead = I.Put (codes "Dam") (codes "Spill") ahead

-- a list of two numbers, and then these lines
abbrev pub pair_then : List Instruction → List Instruction
pair_then lines = number 4 ∷ number 5 ∷ I.List 2 ∷ lines

-- what the first misfit is in such code, and in a rule with such locals and lines
abbrev pub misfit_in : List Block → Option Refusal
misfit_in blocks = first_code_refusal one_dam blocks

abbrev pub misfit_of : List ValueKind → List Instruction → Option Refusal
misfit_of locals lines = misfit_in (rule_with locals lines ∷ [])

-- the same where rules put up to so many days ahead
abbrev pub misfit_ahead : ℕ → List Instruction → Option Refusal
misfit_ahead most lines = first_code_refusal (putting_ahead most one_dam) (rule_with [] lines ∷ [])

-- behind a list of two numbers, in a rule with one local
abbrev pub over_a_list : ValueKind → List Instruction → Option Refusal
over_a_list local lines = misfit_of (local ∷ []) (pair_then lines)

-- a misfit of the first block
abbrev pub misfit_at : VerifyKind → ℕ → Option Refusal
misfit_at misfit place = Some (refusal misfit 1 place)

-- ---- codes

-- it jumps back for ever
abbrev pub endless : List Block
endless = plain_rule (I.Target [] ∷ I.Jump 0 ∷ [])

-- the inflow so many steps ahead, and the sum of those at this step and the next, which is put
abbrev pub sum_ahead_code : List Block
sum_ahead_code =
    function_with (K.N ∷ []) K.N []
    (I.Slot (codes "Dam") (codes "Inflow") ∷ I.Now ∷ I.Load 0 ∷ I.Shift ∷ I.Read ∷ [])
    ∷ rule_with (K.N ∷ K.N ∷ [])
    (number 0 ∷ number 1 ∷ I.List 2 ∷ number 0 ∷ I.Store 1 ∷ I.Foreach 0 ∷ I.Load 1 ∷ I.Load 0 ∷ I.Invoke 1 ∷ I.Add ∷ I.Store 1
    ∷ I.Next ∷ I.Load 1 ∷ I.Put (codes "D") (codes "X") 0 ∷ [])
    ∷ []

-- the basin of that code
abbrev pub dam_and_flow : Draft
dam_and_flow = basin_over_days 3 (dam ∷ flow_object ∷ [])

-- 1 where a branch isn't taken, and 2 where it is
abbrev pub one_or_two : List Block
one_or_two = rule_with []
    (I.Bool false ∷ I.Branch 4 ∷ number 1 ∷ I.Jump 6 ∷ I.Target [] ∷ number 2 ∷ I.Target (K.N ∷ []) ∷ put_outflow 0 ∷ []) ∷ []

-- the same with a sum of two numbers, where the branch isn't taken, and where it is
abbrev pub sum_or_two : List Block
sum_or_two = rule_with []
    (I.Bool false ∷ I.Branch 6 ∷ number 1 ∷ number 1 ∷ I.Add ∷ I.Jump 8 ∷ I.Target [] ∷ number 2 ∷ I.Target (K.N ∷ [])
    ∷ put_outflow 0 ∷ []) ∷ []

abbrev pub one_or_sum : List Block
one_or_sum = rule_with []
    (I.Bool false ∷ I.Branch 4 ∷ number 1 ∷ I.Jump 8 ∷ I.Target [] ∷ number 1 ∷ number 1 ∷ I.Add ∷ I.Target (K.N ∷ [])
    ∷ put_outflow 0 ∷ []) ∷ []

-- a loop in a loop
abbrev pub nested : List Block
nested = rule_with (K.N ∷ K.N ∷ []) (pair_then (I.Foreach 0 ∷ pair_then (I.Foreach 1 ∷ I.Next ∷ I.Next ∷ []))) ∷ []

-- the numbers of a list are doubled, the list gets room for three, and the second number is put
abbrev pub doubled_items : List Block
doubled_items = rule_with (K.N ∷ [])
    (pair_then (I.Map 0 ∷ I.Load 0 ∷ I.Load 0 ∷ I.Add ∷ I.Yield ∷ I.Widen 3 ∷ number 2 ∷ I.Item ∷ put_outflow 0 ∷ [])) ∷ []

-- a put that nothing reaches
abbrev pub skipped : List Block
skipped = rule_with [] (I.Jump 3 ∷ I.Target (K.N ∷ []) ∷ put_outflow 0 ∷ I.Target [] ∷ []) ∷ []

-- the storage is capped, and an outflow put: two rules
abbrev pub cap_and_base_code : List Block
cap_and_base_code =
    rule_with [] (I.Slot (codes "Dam") (codes "Storage") ∷ I.Now ∷ I.Read ∷ number 1020 ∷ I.Call (codes "Min")
    ∷ I.Put (codes "Dam") (codes "Storage") 0 ∷ [])
    ∷ rule_with [] (number 50 ∷ put_outflow 0 ∷ []) ∷ []

-- a third number behind two, and how many there are
abbrev pub three_counted : List Block
three_counted = rule_with [] (pair_then (number 6 ∷ I.Append ∷ I.Length ∷ put_outflow 0 ∷ [])) ∷ []

-- so many functions from a number on, each of which calls the one before it twice
abbrev pub calls_twice : ℕ → ℕ → List Block
calls_twice n zero = []
calls_twice n (suc more) = number_function (I.Invoke n ∷ I.Invoke n ∷ I.Add ∷ []) ∷ calls_twice (suc n) more

-- 19 functions, the first of these lines, and each other one calls the one before it twice
abbrev pub tower : List Instruction → List Block
tower lines = number_function lines ∷ calls_twice 1 18

-- so many puts
abbrev pub many_puts : ℕ → List Block
many_puts n = rule_with [] (flat_map (λ (k : ℕ). number 1 ∷ put_outflow 0 ∷ []) (replicate n 0)) ∷ []

-- so many locals, each a list with room for 4096 numbers
abbrev pub long_locals : ℕ → List Block
long_locals n = rule_with (replicate n (K.NList 4096)) [] ∷ []

-- the ruling of a code on the day of the dam
abbrev pub ruled : List Block → Result (List Budget) Refusal
ruled blocks = ruling one_dam blocks

-- ---- ways

-- each number of a list is put, unless the branch is taken
abbrev pub put_or_not : List Block
put_or_not = rule_with (K.N ∷ [])
    (pair_then (I.Foreach 0 ∷ I.Bool false ∷ I.Branch 8 ∷ I.Load 0 ∷ put_outflow 0 ∷ I.Target [] ∷ I.Next ∷ [])) ∷ []

-- a way through a block of this number
abbrev pub IsWayIn : List Block → ℕ → List ℕ → Type 0
IsWayIn code n way = IsSomeAnd (numbered code n) (λ block. IsWay block.lines way)

-- what a way through that block comes to, by the budgets of the blocks before it
abbrev pub along : Draft → List Block → List Budget → ℕ → List ℕ → Option (Result Budget Misplaced)
along basin code budgets n way =
    option_map (λ (block : Block).
    let scope : Scope = scope_of basin code n block in
    then_do (befores scope 0 (before [] []) block.lines) (λ bs.
    Ok (
    budget
    (sum_on bs block.lines (count_of scope budgets) way)
    (sum_on bs block.lines (looks_of scope budgets) way)
    (sum_on bs block.lines (puts_of scope budgets) way)
    (words_on bs block.lines scope budgets way)
    ))) (numbered code n)

-- of the rule of one block, on the day of the dam
abbrev pub along_rule : List Block → List ℕ → Option (Result Budget Misplaced)
along_rule code way = along one_dam code [] 1 way

-- ---- firings

-- two days of the data object with plain numbers X and Y
abbrev pub numbers_basin : Draft
numbers_basin = basin_over_days 2 (numbers_object ∷ [])

-- `D.X[t] := Max(D.X[t], 10);` and `D.X[t] := 0;`
abbrev pub raise_and_reset_code : List Block
raise_and_reset_code =
    rule_with [] (x_slot ∷ I.Now ∷ I.Read ∷ number 10 ∷ I.Call (codes "Max") ∷ put_x ∷ [])
    ∷ rule_with [] (number 0 ∷ put_x ∷ []) ∷ []

-- `D.X[t] := 100 / D.Y[t];`
abbrev pub hundredth_code : List Block
hundredth_code =
    rule_with [] (number 100 ∷ I.Slot (codes "D") (codes "Y") ∷ I.Now ∷ I.Read ∷ I.Div ∷ put_x ∷ []) ∷ []

-- what the first rule does there, at the first day
abbrev pub code_does : List Block → (Cell → Option ℤ) → Option Fire
code_does code values = fire_of_code code numbers_basin 1 1 values

-- what a rule of these locals and lines does there, before it puts what it has made in X, where nothing is known
abbrev pub x_of : List ValueKind → List Instruction → Option Fire
x_of locals lines = code_does (rule_with locals (lines ++ put_x ∷ []) ∷ []) unknown_cells

-- 1 in X where these lines make TRUE, and 2 where they make FALSE: that counts 5 more
abbrev pub x_by_truth : List Instruction → Option Fire
x_by_truth lines =
    let k : ℕ = length lines in
    x_of [] (lines ++ I.Branch (k + 3) ∷ number 1 ∷ I.Jump (k + 5) ∷ I.Target [] ∷ number 2 ∷ I.Target (K.N ∷ []) ∷ [])

-- what is put in X on the first of 40 days of that object and the pool
abbrev pub x_of_pool : List Instruction → Option Fire
x_of_pool lines =
    fire_of_code (plain_rule (lines ++ put_x ∷ [])) (basin_over_days 40 (numbers_object ∷ pool ∷ [])) 1 1 unknown_cells

-- the difference of a function's two parameters, where the first is a timestep
abbrev pub earlier_code : List Block
earlier_code =
    function_with (K.D ∷ K.N ∷ []) K.D [] (I.Load 0 ∷ I.Load 1 ∷ I.Back ∷ [])
    ∷ rule_with [] (I.Now ∷ I.Now ∷ number 3 ∷ I.Invoke 1 ∷ I.Between ∷ put_x ∷ []) ∷ []

-- what the second of two slots holds, and the sum of what both hold
abbrev pub second_slot : List Block
second_slot = plain_rule (x_slot ∷ y_slot ∷ I.List 2 ∷ number 2 ∷ I.Item ∷ I.Now ∷ I.Read ∷ put_x ∷ [])

abbrev pub code_of_slot_sum : List Block
code_of_slot_sum = rule_with (K.S ∷ K.N ∷ [])
    (x_slot ∷ I.List 1 ∷ y_slot ∷ I.Append ∷ I.Widen 5 ∷ I.Foreach 0 ∷ I.Load 1 ∷ I.Load 0 ∷ I.Now ∷ I.Read ∷ I.Add ∷ I.Store 1
    ∷ I.Next ∷ I.Load 1 ∷ put_x ∷ []) ∷ []

-- the instructions resolved of a rule of these locals and lines, in the basin of that object and the pool
abbrev pub resolved_of : List ValueKind → List Instruction → List Resolved
resolved_of locals lines = resolved_block (basin_over_days 40 (numbers_object ∷ pool ∷ [])) [] 1 (rule_with locals lines)

-- ---- what firings pass

-- a look before the run, which there is not known, and one at the first day
abbrev pub seen_before : List Block
seen_before = plain_rule
    (y_slot ∷ I.Now ∷ number 1 ∷ I.Back ∷ I.Known ∷ I.Branch 6 ∷ I.Target [] ∷ y_slot ∷ I.Now ∷ I.Read ∷ put_x ∷ [])

-- a put, and then a look
abbrev pub put_before_look : List Block
put_before_look = plain_rule (number 1 ∷ put_x ∷ y_slot ∷ I.Now ∷ I.Read ∷ put_x ∷ [])

-- on the first of two days, where nothing is known
abbrev pub first_day : World
first_day = record { basin = numbers_basin; values = unknown_cells; step = 1 }

abbrev pub looks_of_firing : List Block → ℕ
looks_of_firing code = look_count_in code (firing_from code first_day (first_frame code 1))

abbrev pub puts_of_firing : List Block → ℕ
puts_of_firing code = puts_from code first_day (first_frame code 1)

abbrev pub words_of_firing : List Block → ℕ
words_of_firing code = most_words (firing_from code first_day (first_frame code 1))

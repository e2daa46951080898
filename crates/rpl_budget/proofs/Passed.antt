-- What a pass finds with functions whose costs stop above their limits is what stops of the exact costs.
use Rattle.std.proofs.Common.{◌≡◌, ℕ, ℤ, ◌+◌, List, [], ◌∷◌, ◌++◌, refl, ap, ap₂, ◌∙◌, arith}
use Rattle.rpl_tree.specs.declared.words.OneWord.{OneWord}
use Rattle.rpl_tree.specs.declared.words.OneWord.TheVariants as O
use Rattle.rpl_tree.specs.declared.words.TwoWord.{TwoWord}
use Rattle.rpl_tree.specs.declared.words.TwoWord.TheVariants as W
use Rattle.rpl_tree.proofs.Common.{Budget, capped, limits, Costed, most, most_arguments, most_of, most_of_act, most_of_acts, Head, Names, count_of}
use Rattle.rpl_tree.proofs.Common.{first_kind, result_named, takes_named, tree_kind, two_kind, act_local_kinds, acts_local_kinds, all_local_kinds}
use Rattle.rpl_tree.proofs.Common.{local_kinds, Tree, Trees, literal, truth, now, slot, name, call, brackets, list, choice, bind, each, mapped, one}
use Rattle.rpl_tree.proofs.Common.{two, convert, at, no_trees, tree, Act, Acts, assign, branch, with_name, no_acts, act, Kind, element_of}
use Rattle.rpl_tree.proofs.Common.{numbers_kind, room_of, weights, height, height_of_act, height_of_acts, height_of_all, height_of_arguments}
use Rattle.rpl_budget.specs.declared.load.Load.{Load}
use Rattle.rpl_budget.specs.Loads.{load_both, load, looked, one_put, steps}
use Rattle.rpl_budget.specs.Pass.{Measured, Priced, argument, measured_binding, load_of_branches, load_of_call, measured_choice, measured_element}
use Rattle.rpl_budget.specs.Pass.{priced_named, priced_heads, known_load, measured_list, mapped_over, measured, one_load, operation_weight, pass}
use Rattle.rpl_budget.specs.Pass.{pass_act, pass_acts, pass_all, pass_arguments, load_of_loop, two_load, room_for}
use Rattle.rpl_budget.proofs.Exact.{costed, most_of_all, most_same, result_same, room_same, stopped, stopped_budget, takes_same}
use Rattle.rpl_budget.proofs.Sums as Sums
use Rattle.rpl_budget.proofs.Costs as Costs
use Rattle.rpl_budget.proofs.Costs.{Lane, counting, looking, putting}
use Rattle.rpl_budget.proofs.Heights as Heights
use Rattle.rpl_budget.proofs.Heights.{two_locals, weights-append}

pub same_load : {count looks puts high local other_count other_looks other_puts other_high other_local : ℕ} → count ≡ other_count
    → looks ≡ other_looks → puts ≡ other_puts → high ≡ other_high → local ≡ other_local
    → load count looks puts high local ≡ load other_count other_looks other_puts other_high other_local
same_load counts_are looks_are puts_are heights_are locals_are = rw (counts_are, looks_are, puts_are, heights_are, locals_are) refl

module _ (functions : List Priced) where
  abbrev heads : List Head
  heads = priced_heads functions

  abbrev words_of : List Costed
  words_of = costed (λ b. b.words) functions

  -- what stops of four numbers
  abbrev four : ((lane : Lane) → ℕ) → ℕ → ℕ → Load
  four cost high local =
      load (capped limits.count (cost counting)) (capped limits.looks (cost looking)) (capped limits.puts (cost putting))
      (capped limits.words high) (capped limits.words local)

  abbrev costed_by : Lane → List Costed
  costed_by lane = costed lane.part functions

  abbrev cost : Lane → Names → Tree → ℕ
  cost lane names expression = most lane.price (costed_by lane) names expression

  abbrev pub found_load : Names → Tree → Load
  found_load names expression =
      four (λ lane. most lane.price (costed_by lane) names expression) (height words_of names expression)
      (weights (local_kinds heads names expression))

  abbrev pub found : Names → Tree → Measured
  found names expression = measured (tree_kind heads names expression) (found_load names expression)

  abbrev pub all_found : Names → Trees → Measured
  all_found names expressions =
      measured (first_kind heads names expressions)
      (four (λ lane. most_of lane.price (costed_by lane) names expressions) (height_of_all words_of names expressions)
      (weights (all_local_kinds heads names expressions)))

  abbrev pub arguments_found : Names → List Kind → Trees → Load
  arguments_found names kinds expressions =
      four (λ lane. most_arguments lane.price (costed_by lane) names kinds expressions) (height_of_arguments words_of names kinds expressions)
      (weights (all_local_kinds heads names expressions))

  abbrev pub act_found : Names → Act → Load
  act_found names statement =
      four (λ lane. most_of_act lane.price (costed_by lane) names statement) (height_of_act words_of names statement)
      (weights (act_local_kinds heads names statement))

  abbrev pub acts_found : Names → Acts → Load
  acts_found names statements =
      four (λ lane. most_of_acts lane.price (costed_by lane) names statements) (height_of_acts words_of names statements)
      (weights (acts_local_kinds heads names statements))

  -- ---- forms by their parts

  choice_is : (names : Names) (condition if_true if_false : Tree)
      → measured_choice (found names condition) (found names if_true) (found names if_false) ≡ found names (choice condition if_true if_false)
  choice_is names condition if_true if_false =
      ap (measured (tree_kind heads names (choice condition if_true if_false)))
      (same_load (Costs.choice_cost counting functions names condition if_true if_false)
      (Costs.choice_cost looking functions names condition if_true if_false)
      (Costs.choice_cost putting functions names condition if_true if_false) (Heights.choice_height functions names condition if_true if_false)
      (let condition_locals = local_kinds heads names condition in let true_locals = local_kinds heads names if_true in
      let false_locals = local_kinds heads names if_false in
      omega (arith, weights-append condition_locals (true_locals ++ false_locals), weights-append true_locals false_locals)))

  bind_is : (names : Names) (new_name : List ℕ) (value_tree body : Tree)
      → measured_binding (found names value_tree) (found_load ((new_name, tree_kind heads names value_tree) ∷ names) body)
      ≡ found_load names (bind new_name value_tree body)
  bind_is names new_name value_tree body =
      same_load (Costs.bind_cost counting functions names new_name value_tree body) (Costs.bind_cost looking functions names new_name value_tree body)
      (Costs.bind_cost putting functions names new_name value_tree body) (Heights.bind_height functions names new_name value_tree body)
      (omega (
        arith,
        weights-append (local_kinds heads names value_tree) (local_kinds heads ((new_name, tree_kind heads names value_tree) ∷ names) body),
      ))

  each_is : (names : Names) (item_name : List ℕ) (source : Tree) (total_name : List ℕ) (initial body : Tree) →
      let inside : Names = (total_name, tree_kind heads names initial) ∷ (item_name, element_of (tree_kind heads names source)) ∷ names in
      load_of_loop (found names source) (found names initial) (found inside body) ≡ found_load names (each item_name source total_name initial body)
  each_is names item_name source total_name initial body =
      let inside : Names = (total_name, tree_kind heads names initial) ∷ (item_name, element_of (tree_kind heads names source)) ∷ names in
      same_load (Costs.each_cost counting functions names item_name source total_name initial body)
      (Costs.each_cost looking functions names item_name source total_name initial body)
      (Costs.each_cost putting functions names item_name source total_name initial body)
      (Heights.each_height functions names item_name source total_name initial body)
      (omega (
        arith,
        weights-append (local_kinds heads names source) (local_kinds heads names initial ++ local_kinds heads inside body),
        weights-append (local_kinds heads names initial) (local_kinds heads inside body),
      ))

  mapped_is : (names : Names) (item_name : List ℕ) (source body : Tree)
      → mapped_over (found names source) (found ((item_name, element_of (tree_kind heads names source)) ∷ names) body)
      ≡ found_load names (mapped item_name source body)
  mapped_is names item_name source body =
      same_load (Costs.mapped_cost counting functions names item_name source body) (Costs.mapped_cost looking functions names item_name source body)
      (Costs.mapped_cost putting functions names item_name source body) (Heights.mapped_height functions names item_name source body)
      (omega (
        arith,
        weights-append (local_kinds heads names source) (local_kinds heads ((item_name, element_of (tree_kind heads names source)) ∷ names) body),
      ))

  -- a step behind an expression
  stepped : (names : Names) (operand : Tree) (steps_here : ℕ) → load_both (found_load names operand) (load (capped limits.count steps_here) 0 0 0 0)
      ≡ four (λ lane. most lane.price (costed_by lane) names operand + lane.price.step steps_here) (height words_of names operand)
      (weights (local_kinds heads names operand))
  stepped names operand steps_here =
      same_load (Costs.step_cost counting functions _ steps_here) (Costs.step_cost looking functions _ steps_here)
      (Costs.step_cost putting functions _ steps_here)
      (omega arith) (omega arith)

  known_is : (names : Names) (operand : Tree) → known_load operand (found_load names operand) ≡ found_load names (one O.Known operand)
  known_is names (at slot_tree date) = refl
  known_is names operand = refl

  one_is : (names : Names) (word : OneWord) (operand : Tree) → one_load word operand (found_load names operand) ≡ found_load names (one word operand)
  one_is names O.Known operand = known_is names operand
  one_is names word operand = stepped names operand 1

  or_is : (names : Names) (left right : Tree) → two_load W.Or (found names left) (found_load names right) ≡ found_load names (two W.Or left right)
  or_is names left right =
      same_load (Costs.or_cost counting functions _ _) (Costs.or_cost looking functions _ _) (Costs.or_cost putting functions _ _) (omega arith)
      (omega (arith, weights-append (local_kinds heads names left) (local_kinds heads names right)))

  and_is : (names : Names) (left right : Tree) → two_load W.And (found names left) (found_load names right) ≡ found_load names (two W.And left right)
  and_is names left right =
      same_load (Costs.and_cost counting functions _ _) (Costs.and_cost looking functions _ _) (Costs.and_cost putting functions _ _) (omega arith)
      (omega (arith, weights-append (local_kinds heads names left) (local_kinds heads names right)))

  both_locals : (names : Names) (left right : Tree) →
      capped limits.words (capped limits.words (weights (local_kinds heads names left))
      + capped limits.words (capped limits.words (weights (local_kinds heads names right)) + 0))
      ≡ capped limits.words (weights (local_kinds heads names left ++ local_kinds heads names right))
  both_locals names left right = omega (arith, weights-append (local_kinds heads names left) (local_kinds heads names right))

  append_is : (names : Names) (left right : Tree)
      → two_load W.Append (found names left) (found_load names right) ≡ found_load names (two W.Append left right)
  append_is names left right =
      same_load (Costs.append_cost counting functions names left right) (Costs.append_cost looking functions names left right)
      (Costs.append_cost putting functions names left right) (Heights.second_height functions names left right) (both_locals names left right)

  two_is : (names : Names) (word : TwoWord) (left right : Tree)
      → two_load word (found names left) (found_load names right) ≡ found_load names (two word left right)
  two_is names W.Or left right = or_is names left right
  two_is names W.And left right = and_is names left right
  two_is names W.Append left right = append_is names left right
  two_is names word left right =
      let steps_here = operation_weight word (tree_kind heads names left) in
      same_load (Costs.two_cost counting functions _ _ steps_here) (Costs.two_cost looking functions _ _ steps_here)
      (Costs.two_cost putting functions _ _ steps_here)
      (Heights.second_height functions names left right) (both_locals names left right)

  at_is : (names : Names) (slot_tree date : Tree) → looked (found_load names slot_tree) (found_load names date) ≡ found_load names (at slot_tree date)
  at_is names slot_tree date =
      same_load (Sums.two limits.count (cost counting names slot_tree) (cost counting names date) 1 1 refl)
      (Sums.two limits.looks (cost looking names slot_tree) (cost looking names date) 1 1 refl)
      (Sums.two limits.puts (cost putting names slot_tree) (cost putting names date) 0 0 refl) (omega arith) (both_locals names slot_tree date)

  list_is : (names : Names) (expressions : Trees)
      → measured_list (count_of expressions) (all_found names expressions) ≡ found names (list expressions)
  list_is names expressions =
      ap (measured (tree_kind heads names (list expressions)))
      (same_load (Costs.list_cost counting functions names expressions) (Costs.list_cost looking functions names expressions)
      (Costs.list_cost putting functions names expressions) (omega arith) (omega arith))

  element_is : (names : Names) (expression : Tree) (expressions : Trees)
      → measured_element (found names expression) (all_found names expressions) ≡ all_found names (tree expression expressions)
  element_is names expression expressions =
      ap (measured (tree_kind heads names expression))
      (same_load (Sums.sum limits.count _ _) (Sums.sum limits.looks _ _) (Sums.sum limits.puts _ _) (omega arith)
      (two_locals (local_kinds heads names expression) (all_local_kinds heads names expressions)))

  no_argument_is : (names : Names) (expression : Tree) (expressions : Trees)
      → argument [] (found names expression) (arguments_found names [] expressions) ≡ arguments_found names [] (tree expression expressions)
  no_argument_is names expression expressions =
      same_load refl refl refl refl (two_locals (local_kinds heads names expression) (all_local_kinds heads names expressions))

  argument_is : (names : Names) (kind : Kind) (kinds : List Kind) (expression : Tree) (expressions : Trees)
      → argument (kind ∷ kinds) (found names expression) (arguments_found names kinds expressions)
      ≡ arguments_found names (kind ∷ kinds) (tree expression expressions)
  argument_is names kind kinds expression expressions =
      same_load (Costs.argument_cost counting functions names kind kinds expression expressions)
      (Costs.argument_cost looking functions names kind kinds expression expressions)
      (Costs.argument_cost putting functions names kind kinds expression expressions)
      (Heights.argument_height functions names kind kinds expression expressions)
      (let own_locals = local_kinds heads names expression in let other_locals = all_local_kinds heads names expressions in
      omega (arith, weights-append own_locals other_locals))

  -- a call, by what is found of the function
  abbrev call_of : Kind → ℕ → Budget → Load → Measured
  call_of result room most arguments =
      measured result
      (load_both arguments (load_of_call (record { head = record { name = []; takes = []; result = result }; room = room; most = most })))

  call_is : (names : Names) (function_name : List ℕ) (expressions : Trees) →
      call_of (result_named heads function_name) (room_for (takes_named heads function_name)) (stopped_budget (most_of_all functions function_name))
      (arguments_found names (takes_named heads function_name) expressions)
      ≡ found names (call function_name expressions)
  call_is names function_name expressions =
      ap (measured (result_named heads function_name))
      (same_load (Costs.call_cost counting functions names function_name expressions)
      (Costs.call_cost looking functions names function_name expressions)
      (Costs.call_cost putting functions names function_name expressions) (Heights.call_height functions names function_name expressions)
      (omega arith))

  mutual
    pub pass_is : (names : Names) (expression : Tree) → pass (stopped functions) names expression ≡ found names expression
    pass_is names (literal number unit) = refl
    pass_is names (truth is_so) = refl
    pass_is names now = refl
    pass_is names (slot object slot_name) = refl
    pass_is names (name sought) = refl
    pass_is names (call function_name arguments) =
        let known = priced_named (stopped functions) function_name in
        let arguments_passed = pass_arguments (stopped functions) names (takes_named heads function_name) arguments in
        ap (λ takes. call_of known.head.result known.room known.most (pass_arguments (stopped functions) names takes arguments))
        (takes_same functions function_name)
        ∙ ap (λ result. call_of result known.room known.most arguments_passed) (result_same functions function_name)
        ∙ ap (λ room. call_of (result_named heads function_name) room known.most arguments_passed) (room_same functions function_name)
        ∙ ap (λ most. call_of (result_named heads function_name) (room_for (takes_named heads function_name)) most arguments_passed)
        (most_same functions function_name)
        ∙ ap (call_of (result_named heads function_name) (room_for (takes_named heads function_name))
        (stopped_budget (most_of_all functions function_name)))
        (arguments_are names (takes_named heads function_name) arguments)
        ∙ call_is names function_name arguments
    pass_is names (brackets inside) = pass_is names inside
    pass_is names (list items) = ap (measured_list (count_of items)) (all_are names items) ∙ list_is names items
    pass_is names (choice condition if_true if_false) =
        ap (λ of_part. measured_choice of_part (pass (stopped functions) names if_true) (pass (stopped functions) names if_false))
        (pass_is names condition)
        ∙ ap₂ (measured_choice (found names condition)) (pass_is names if_true) (pass_is names if_false) ∙ choice_is names condition if_true if_false
    pass_is names (bind new_name value_tree body) =
        ap (λ (of_part : Measured). let body_measured = pass (stopped functions) ((new_name, of_part.kind) ∷ names) body in
        measured body_measured.kind (measured_binding of_part body_measured.load))
        (pass_is names value_tree)
        ∙ ap (λ (of_part : Measured). measured of_part.kind (measured_binding (found names value_tree) of_part.load))
        (pass_is ((new_name, tree_kind heads names value_tree) ∷ names) body)
        ∙ ap (measured (tree_kind heads names (bind new_name value_tree body))) (bind_is names new_name value_tree body)
    pass_is names (each item_name source total_name initial body) =
        ap (λ (of_part : Measured). let first = pass (stopped functions) names initial in
        measured first.kind
        (load_of_loop of_part first (pass (stopped functions) ((total_name, first.kind) ∷ (item_name, element_of of_part.kind) ∷ names) body)))
        (pass_is names source)
        ∙ ap (λ (of_part : Measured). measured of_part.kind (load_of_loop (found names source) of_part
        (pass (stopped functions) ((total_name, of_part.kind) ∷ (item_name, element_of (tree_kind heads names source)) ∷ names) body)))
        (pass_is names initial)
        ∙ ap (λ (of_part : Measured). measured (tree_kind heads names initial) (load_of_loop (found names source) (found names initial) of_part))
        (pass_is ((total_name, tree_kind heads names initial) ∷ (item_name, element_of (tree_kind heads names source)) ∷ names) body)
        ∙ ap (measured (tree_kind heads names initial)) (each_is names item_name source total_name initial body)
    pass_is names (mapped item_name source body) =
        ap (λ (of_part : Measured).
        measured (numbers_kind (room_of of_part.kind))
        (mapped_over of_part (pass (stopped functions) ((item_name, element_of of_part.kind) ∷ names) body)))
        (pass_is names source)
        ∙ ap (λ (of_part : Measured). measured (numbers_kind (room_of (tree_kind heads names source))) (mapped_over (found names source) of_part))
        (pass_is ((item_name, element_of (tree_kind heads names source)) ∷ names) body)
        ∙ ap (measured (numbers_kind (room_of (tree_kind heads names source)))) (mapped_is names item_name source body)
    pass_is names (one word operand) =
        ap (λ (of_part : Measured). measured (tree_kind heads names (one word operand)) (one_load word operand of_part.load)) (pass_is names operand)
        ∙ ap (measured (tree_kind heads names (one word operand))) (one_is names word operand)
    pass_is names (two word left right) =
        ap₂ (λ (of_part of_other : Measured). measured (two_kind word of_part.kind of_other.kind) (two_load word of_part of_other.load))
        (pass_is names left) (pass_is names right)
        ∙ ap (measured (tree_kind heads names (two word left right))) (two_is names word left right)
    pass_is names (convert word object operand) =
        ap (λ (of_part : Measured). measured (tree_kind heads names (convert word object operand)) (load_both of_part.load (steps 1)))
        (pass_is names operand)
        ∙ ap (measured (tree_kind heads names (convert word object operand))) (stepped names operand 1)
    pass_is names (at slot_tree date) =
        ap₂ (λ (of_part of_other : Measured). measured (tree_kind heads names (at slot_tree date)) (looked of_part.load of_other.load))
        (pass_is names slot_tree) (pass_is names date)
        ∙ ap (measured (tree_kind heads names (at slot_tree date))) (at_is names slot_tree date)

    pub all_are : (names : Names) (expressions : Trees) → pass_all (stopped functions) names expressions ≡ all_found names expressions
    all_are names no_trees = refl
    all_are names (tree first others) = ap₂ measured_element (pass_is names first) (all_are names others) ∙ element_is names first others

    pub arguments_are : (names : Names) (kinds : List Kind) (expressions : Trees)
        → pass_arguments (stopped functions) names kinds expressions ≡ arguments_found names kinds expressions
    arguments_are names [] no_trees = refl
    arguments_are names (kind ∷ kinds) no_trees = refl
    arguments_are names [] (tree first others) =
        ap₂ (argument []) (pass_is names first) (arguments_are names [] others) ∙ no_argument_is names first others
    arguments_are names (kind ∷ kinds) (tree first others) =
        ap₂ (argument (kind ∷ kinds)) (pass_is names first) (arguments_are names kinds others) ∙ argument_is names kind kinds first others

  -- ---- statements

  assign_is : (names : Names) (object slot_name : List ℕ) (ahead : ℤ) (value_tree : Tree)
      → load_both (found_load names value_tree) one_put ≡ act_found names (assign object slot_name ahead value_tree)
  assign_is names object slot_name ahead value_tree =
      same_load (Sums.step limits.count (cost counting names value_tree) 1 1 refl) (Sums.step limits.looks (cost looking names value_tree) 0 0 refl)
      (Sums.step limits.puts (cost putting names value_tree) 1 1 refl) (omega arith) (omega arith)

  branch_is : (names : Names) (condition : Tree) (first second : Acts)
      → load_of_branches (found_load names condition) (acts_found names first) (acts_found names second)
      ≡ act_found names (branch condition first second)
  branch_is names condition first second =
      same_load (Costs.branch_cost counting functions _ _ _) (Costs.branch_cost looking functions _ _ _) (Costs.branch_cost putting functions _ _ _)
      (omega arith)
      (let condition_locals = local_kinds heads names condition in let first_locals = acts_local_kinds heads names first in
      let second_locals = acts_local_kinds heads names second in
      omega (arith, weights-append condition_locals (first_locals ++ second_locals), weights-append first_locals second_locals))

  with_is : (names : Names) (new_name : List ℕ) (value_tree : Tree) (body : Acts)
      → measured_binding (found names value_tree) (acts_found ((new_name, tree_kind heads names value_tree) ∷ names) body)
      ≡ act_found names (with_name new_name value_tree body)
  with_is names new_name value_tree body =
      same_load (Costs.with_cost counting functions names new_name value_tree body) (Costs.with_cost looking functions names new_name value_tree body)
      (Costs.with_cost putting functions names new_name value_tree body) (Heights.with_height functions names new_name value_tree body)
      (omega (
        arith,
        weights-append (local_kinds heads names value_tree) (acts_local_kinds heads ((new_name, tree_kind heads names value_tree) ∷ names) body),
      ))

  acts_step : (names : Names) (statement : Act) (rest : Acts)
      → load_both (act_found names statement) (acts_found names rest) ≡ acts_found names (act statement rest)
  acts_step names statement rest =
      same_load (Sums.sum limits.count _ _) (Sums.sum limits.looks _ _) (Sums.sum limits.puts _ _) (omega arith)
      (two_locals (act_local_kinds heads names statement) (acts_local_kinds heads names rest))

  mutual
    pub act_is : (names : Names) (statement : Act) → pass_act (stopped functions) names statement ≡ act_found names statement
    act_is names (assign object slot_name ahead value_tree) =
        ap (λ (of_part : Measured). load_both of_part.load one_put) (pass_is names value_tree) ∙ assign_is names object slot_name ahead value_tree
    act_is names (branch condition first second) =
        ap (λ (of_part : Measured).
        load_of_branches of_part.load (pass_acts (stopped functions) names first) (pass_acts (stopped functions) names second))
        (pass_is names condition)
        ∙ ap₂ (load_of_branches (found_load names condition)) (acts_are names first) (acts_are names second)
        ∙ branch_is names condition first second
    act_is names (with_name new_name value_tree body) =
        ap (λ (of_part : Measured). measured_binding of_part (pass_acts (stopped functions) ((new_name, of_part.kind) ∷ names) body))
        (pass_is names value_tree)
        ∙ ap (measured_binding (found names value_tree)) (acts_are ((new_name, tree_kind heads names value_tree) ∷ names) body)
        ∙ with_is names new_name value_tree body

    pub acts_are : (names : Names) (statements : Acts) → pass_acts (stopped functions) names statements ≡ acts_found names statements
    acts_are names no_acts = refl
    acts_are names (act first others) = ap₂ load_both (act_is names first) (acts_are names others) ∙ acts_step names first others

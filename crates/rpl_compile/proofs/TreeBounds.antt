-- Code has at most 8 lines for each node, and at most 2 locals.
use Rattle.rpl_compile.proofs.Common.{Act, Acts, And, Greater, GreaterEqual, Head, Kind, Known, List, Names, OneWord, Or, Tree, Trees, TwoWord}
use Rattle.rpl_compile.proofs.Common.{Unequal, [], act, act_locals, act_nodes, acts_locals, acts_nodes, arith, assign, at, bind, brackets, branch}
use Rattle.rpl_compile.proofs.Common.{call, choice, cond_both, convert, each, element_of, is_same_kind, list, local_count, local_counts, mapped}
use Rattle.rpl_compile.proofs.Common.{no_acts, no_trees, node_count, node_counts, one, one_size, size, size_of_act, size_of_acts, sizes}
use Rattle.rpl_compile.proofs.Common.{sizes_of_arguments, takes_named, tree, tree_kind, two, two_size, widening_size, with_name, ℕ, ◌*◌, ◌+◌, ◌∷◌}
use Rattle.rpl_compile.proofs.Common.{◌≤◌}

pub widening_few : (place kind : Kind) → widening_size place kind ≤ 1
widening_few place kind = cond_both (is_same_kind place kind) 0 1 (λ n. n ≤ 1) (λ e. omega arith) (λ e. omega arith)

one_few : (word : OneWord) (lines nodes : ℕ) → lines + 2 ≤ 8 * nodes → one_size word lines + 2 ≤ 8 * (nodes + 1)
one_few Known lines nodes few = omega (arith, few)
one_few word lines nodes few = omega (arith, few)

two_few : (word : TwoWord) (left right left_nodes right_nodes : ℕ) → left + 2 ≤ 8 * left_nodes → right + 2 ≤ 8 * right_nodes
    → two_size word left right + 2 ≤ 8 * (left_nodes + right_nodes + 1)
two_few Or left right left_nodes right_nodes left_few right_few = omega (arith, left_few, right_few)
two_few And left right left_nodes right_nodes left_few right_few = omega (arith, left_few, right_few)
two_few Unequal left right left_nodes right_nodes left_few right_few = omega (arith, left_few, right_few)
two_few Greater left right left_nodes right_nodes left_few right_few = omega (arith, left_few, right_few)
two_few GreaterEqual left right left_nodes right_nodes left_few right_few = omega (arith, left_few, right_few)
two_few word left right left_nodes right_nodes left_few right_few = omega (arith, left_few, right_few)

module _ (heads : List Head) where
  mutual
    -- one line is left for a list that is widened
    pub few_lines : (names : Names) (expression : Tree) → size heads names expression + 2 ≤ 8 * node_count expression
    few_lines names (call function_name arguments) = let first_few = few_for_arguments names (takes_named heads function_name) arguments in
        omega (arith, first_few)
    few_lines names (brackets inside) = let first_few = few_lines names inside in omega (arith, first_few)
    few_lines names (list items) = let first_few = few_for_all names items in omega (arith, first_few)
    few_lines names (choice condition if_true if_false) =
        let kind = tree_kind heads names (choice condition if_true if_false) in
        let first_few = few_lines names condition in
        let second_few = few_lines names if_true in
        let third_few = few_lines names if_false in
        let first = widening_few kind (tree_kind heads names if_true) in
        let second = widening_few kind (tree_kind heads names if_false) in
        omega (arith, first_few, second_few, third_few, first, second)
    few_lines names (bind new_name value_tree body) =
        let first_few = few_lines names value_tree in
        let second_few = few_lines ((new_name, tree_kind heads names value_tree) ∷ names) body in
        omega (arith, first_few, second_few)
    few_lines names (each item_name source total_name initial body) =
        let total = tree_kind heads names initial in
        let inside : Names = (total_name, total) ∷ (item_name, element_of (tree_kind heads names source)) ∷ names in
        let first_few = few_lines names source in
        let second_few = few_lines names initial in
        let third_few = few_lines inside body in
        let last = widening_few total (tree_kind heads inside body) in
        omega (arith, first_few, second_few, third_few, last)
    few_lines names (mapped item_name source body) =
        let first_few = few_lines names source in
        let second_few = few_lines ((item_name, element_of (tree_kind heads names source)) ∷ names) body in
        omega (arith, first_few, second_few)
    few_lines names (one word operand) = let first_few = one_few word (size heads names operand) (node_count operand) (few_lines names operand) in
        omega (arith, first_few)
    few_lines names (two word left right) =
        let first_few =
        two_few word (size heads names left) (size heads names right) (node_count left) (node_count right) (few_lines names left)
        (few_lines names right) in
        omega (arith, first_few)
    few_lines names (convert word object operand) = let first_few = few_lines names operand in omega (arith, first_few)
    few_lines names (at slot_tree date) =
        let first_few = few_lines names slot_tree in
        let second_few = few_lines names date in
        omega (arith, first_few, second_few)
    few_lines names expression = omega arith

    few_for_all : (names : Names) (expressions : Trees) → sizes heads names expressions ≤ 8 * node_counts expressions
    few_for_all names no_trees = omega arith
    few_for_all names (tree first others) =
        let first_few = few_lines names first in
        let second_few = few_for_all names others in
        omega (arith, first_few, second_few)

    few_for_arguments : (names : Names) (kinds : List Kind) (expressions : Trees)
        → sizes_of_arguments heads names kinds expressions ≤ 8 * node_counts expressions
    few_for_arguments names [] expressions = omega arith
    few_for_arguments names (kind ∷ kinds) no_trees = omega arith
    few_for_arguments names (kind ∷ kinds) (tree first others) =
        let first_few = few_lines names first in
        let second_few = few_for_arguments names kinds others in
        let own = widening_few kind (tree_kind heads names first) in
        omega (arith, first_few, second_few, own)

  mutual
    few_for_act : (names : Names) (statement : Act) → size_of_act heads names statement ≤ 8 * act_nodes statement
    few_for_act names (assign object slot_name ahead value_tree) = let first_few = few_lines names value_tree in omega (arith, first_few)
    few_for_act names (branch condition first second) =
        let first_few = few_lines names condition in
        let second_few = few_for_acts names first in
        let third_few = few_for_acts names second in
        omega (arith, first_few, second_few, third_few)
    few_for_act names (with_name new_name value_tree body) =
        let first_few = few_lines names value_tree in
        let second_few = few_for_acts ((new_name, tree_kind heads names value_tree) ∷ names) body in
        omega (arith, first_few, second_few)

    pub few_for_acts : (names : Names) (statements : Acts) → size_of_acts heads names statements ≤ 8 * acts_nodes statements
    few_for_acts names no_acts = omega arith
    few_for_acts names (act first others) =
        let first_few = few_for_act names first in
        let second_few = few_for_acts names others in
        omega (arith, first_few, second_few)

-- ---- locals

mutual
  pub few_locals : (expression : Tree) → local_count expression ≤ 2 * node_count expression
  few_locals (call function_name arguments) = let first_few = few_locals_of arguments in omega (arith, first_few)
  few_locals (brackets inside) = let first_few = few_locals inside in omega (arith, first_few)
  few_locals (list items) = let first_few = few_locals_of items in omega (arith, first_few)
  few_locals (choice condition if_true if_false) =
      let first_few = few_locals condition in
      let second_few = few_locals if_true in
      let third_few = few_locals if_false in
      omega (arith, first_few, second_few, third_few)
  few_locals (bind new_name value_tree body) =
      let first_few = few_locals value_tree in
      let second_few = few_locals body in
      omega (arith, first_few, second_few)
  few_locals (each item_name source total_name initial body) =
      let first_few = few_locals source in
      let second_few = few_locals initial in
      let third_few = few_locals body in
      omega (arith, first_few, second_few, third_few)
  few_locals (mapped item_name source body) =
      let first_few = few_locals source in
      let second_few = few_locals body in
      omega (arith, first_few, second_few)
  few_locals (one word operand) = let first_few = few_locals operand in omega (arith, first_few)
  few_locals (two word left right) =
      let first_few = few_locals left in
      let second_few = few_locals right in
      omega (arith, first_few, second_few)
  few_locals (convert word object operand) = let first_few = few_locals operand in omega (arith, first_few)
  few_locals (at slot_tree date) =
      let first_few = few_locals slot_tree in
      let second_few = few_locals date in
      omega (arith, first_few, second_few)
  few_locals expression = omega arith

  few_locals_of : (expressions : Trees) → local_counts expressions ≤ 2 * node_counts expressions
  few_locals_of no_trees = omega arith
  few_locals_of (tree first others) =
      let first_few = few_locals first in
      let second_few = few_locals_of others in
      omega (arith, first_few, second_few)

mutual
  few_act_locals : (statement : Act) → act_locals statement ≤ 2 * act_nodes statement
  few_act_locals (assign object slot_name ahead value_tree) = let first_few = few_locals value_tree in omega (arith, first_few)
  few_act_locals (branch condition first second) =
      let first_few = few_locals condition in
      let second_few = few_acts_locals first in
      let third_few = few_acts_locals second in
      omega (arith, first_few, second_few, third_few)
  few_act_locals (with_name new_name value_tree body) =
      let first_few = few_locals value_tree in
      let second_few = few_acts_locals body in
      omega (arith, first_few, second_few)

  pub few_acts_locals : (statements : Acts) → acts_locals statements ≤ 2 * acts_nodes statements
  few_acts_locals no_acts = omega arith
  few_acts_locals (act first others) =
      let first_few = few_act_locals first in
      let second_few = few_acts_locals others in
      omega (arith, first_few, second_few)

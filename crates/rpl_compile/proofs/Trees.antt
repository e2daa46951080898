-- The code of each tree does what the tree means: the claims of all forms, by recursion on the tree.
use Rattle.rpl_compile.proofs.Common.{And, Or, Tree, Trees, TwoWord, at, bind, brackets, call, choice, convert, each, list, literal, mapped, name}
use Rattle.rpl_compile.proofs.Common.{no_trees, now, one, slot, tree, truth, two}
use Rattle.rpl_compile.proofs.Setting.{Claim, Setting}
use Rattle.rpl_compile.proofs.Leaves.{on_brackets, on_literal, on_name, on_now, on_slot, on_truth}
use Rattle.rpl_compile.proofs.Operators.{Asks, asks_at, on_at, on_convert, on_two_trees, on_word}
use Rattle.rpl_compile.proofs.Choices.{on_and, on_choice, on_or}
use Rattle.rpl_compile.proofs.Bindings.{on_bind}
use Rattle.rpl_compile.proofs.Rows.{ClaimAll, ClaimArguments, more_arguments, more_elements, no_arguments, no_elements, on_call, on_list}
use Rattle.rpl_compile.proofs.Visits.{on_each}
use Rattle.rpl_compile.proofs.Mappings.{on_mapped}

module _ (setting : Setting) where
  on_operator : (word : TwoWord) (left right : Tree) → Claim setting left → Claim setting right → Claim setting (two word left right)
  on_operator Or left right claim_of_left claim_of_right = on_or setting left right claim_of_left claim_of_right
  on_operator And left right claim_of_left claim_of_right = on_and setting left right claim_of_left claim_of_right
  on_operator word left right claim_of_left claim_of_right = on_two_trees setting word left right tt claim_of_left claim_of_right

  mutual
    pub tree_goes : (expression : Tree) → Claim setting expression
    tree_goes (literal number unit) = on_literal setting number unit
    tree_goes (truth is_so) = on_truth setting is_so
    tree_goes now = on_now setting
    tree_goes (slot object slot_name) = on_slot setting object slot_name
    tree_goes (name sought) = on_name setting sought
    tree_goes (call function_name arguments) = on_call setting function_name arguments (arguments_go arguments)
    tree_goes (brackets inside) = on_brackets setting inside (tree_goes inside)
    tree_goes (list items) = on_list setting items (all_go items)
    tree_goes (choice condition if_true if_false) =
        on_choice setting condition if_true if_false (tree_goes condition) (tree_goes if_true) (tree_goes if_false)
    tree_goes (bind new_name value_tree body) = on_bind setting new_name value_tree body (tree_goes value_tree) (tree_goes body)
    tree_goes (each item_name source total_name initial body) =
        on_each setting item_name source total_name initial body (tree_goes source) (tree_goes initial) (tree_goes body)
    tree_goes (mapped item_name source body) = on_mapped setting item_name source body (tree_goes source) (tree_goes body)
    tree_goes (one word operand) = on_word setting word operand (tree_goes operand) (asked_goes operand)
    tree_goes (two word left right) = on_operator word left right (tree_goes left) (tree_goes right)
    tree_goes (convert word object operand) = on_convert setting word object operand (tree_goes operand)
    tree_goes (at slot_tree date) = on_at setting slot_tree date (tree_goes slot_tree) (tree_goes date)

    asked_goes : (expression : Tree) → Asks setting expression
    asked_goes (at slot_tree date) = asks_at setting slot_tree date (tree_goes slot_tree) (tree_goes date)
    asked_goes expression = λ site environment locals operands loops callers asked placed locals_at kinded here. absurd asked

    all_go : (expressions : Trees) → ClaimAll setting expressions
    all_go no_trees = no_elements setting
    all_go (tree first others) = more_elements setting first others (tree_goes first) (all_go others)

    arguments_go : (expressions : Trees) → ClaimArguments setting expressions
    arguments_go no_trees = no_arguments setting
    arguments_go (tree first others) = more_arguments setting first others (tree_goes first) (arguments_go others)

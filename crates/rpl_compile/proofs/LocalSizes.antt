-- How many locals are kept for an expression or statement.
use Rattle.rpl_compile.proofs.Common.{Act, Acts, Head, List, Names, Tree, Trees, act, act_local_kinds, act_locals, acts_local_kinds, acts_locals}
use Rattle.rpl_compile.proofs.Common.{all_local_kinds, arith, assign, at, bind, brackets, branch, call, choice, convert, each, element_of, length}
use Rattle.rpl_compile.proofs.Common.{length-append, list, local_count, local_counts, local_kinds, mapped, no_acts, no_trees, one, refl, tree}
use Rattle.rpl_compile.proofs.Common.{tree_kind, two, with_name, ◌∷◌, ◌≡◌}

module _ (heads : List Head) where
  mutual
    pub locals_size : (expression : Tree) (names : Names) → length (local_kinds heads names expression) ≡ local_count expression
    locals_size (call function_name arguments) names = all_locals_size arguments names
    locals_size (brackets inside) names = locals_size inside names
    locals_size (list items) names = all_locals_size items names
    locals_size (choice condition if_true if_false) names =
        simp length-append (omega (arith, locals_size condition names, locals_size if_true names, locals_size if_false names))
    locals_size (bind new_name value_tree body) names =
        simp length-append (omega (arith, locals_size value_tree names, locals_size body ((new_name, tree_kind heads names value_tree) ∷ names)))
    locals_size (each item_name source total_name initial body) names =
        simp length-append (omega (
          arith,
          locals_size source names,
          locals_size initial names,
          locals_size body ((total_name, tree_kind heads names initial) ∷ (item_name, element_of (tree_kind heads names source)) ∷ names),
        ))
    locals_size (mapped item_name source body) names =
        simp length-append
        (omega (arith, locals_size source names, locals_size body ((item_name, element_of (tree_kind heads names source)) ∷ names)))
    locals_size (one word operand) names = locals_size operand names
    locals_size (two word left right) names = simp length-append (omega (arith, locals_size left names, locals_size right names))
    locals_size (convert word object operand) names = locals_size operand names
    locals_size (at slot_tree date) names = simp length-append (omega (arith, locals_size slot_tree names, locals_size date names))
    locals_size expression names = refl

    pub all_locals_size : (expressions : Trees) (names : Names) → length (all_local_kinds heads names expressions) ≡ local_counts expressions
    all_locals_size no_trees names = refl
    all_locals_size (tree first others) names = simp length-append (omega (arith, locals_size first names, all_locals_size others names))

  mutual
    pub act_locals_size : (statement : Act) (names : Names) → length (act_local_kinds heads names statement) ≡ act_locals statement
    act_locals_size (assign object slot_name ahead value_tree) names = locals_size value_tree names
    act_locals_size (branch condition first second) names =
        simp length-append (omega (arith, locals_size condition names, acts_locals_size first names, acts_locals_size second names))
    act_locals_size (with_name new_name value_tree body) names =
        simp length-append (omega (arith, locals_size value_tree names, acts_locals_size body ((new_name, tree_kind heads names value_tree) ∷ names)))

    pub acts_locals_size : (statements : Acts) (names : Names) → length (acts_local_kinds heads names statements) ≡ acts_locals statements
    acts_locals_size no_acts names = refl
    acts_locals_size (act first others) names = simp length-append (omega (arith, act_locals_size first names, acts_locals_size others names))

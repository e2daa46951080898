-- The kinds of expressions that are accepted can be spelt: lists have room for 1 to 4096 elements.
use Rattle.rpl_compile.proofs.Common.{Act, Acts, AllByRecursion, Append, AreArguments, AreBoth, AreKindedActs, AreKinds, AreOfKind, CanAppend, Draft}
use Rattle.rpl_compile.proofs.Common.{Head, IsAnyList, IsCodeKind, IsElement, IsKinded, IsKindedAct, IsLength, Item, Kind, Less_by, List, Names, Not}
use Rattle.rpl_compile.proofs.Common.{OneWord, Plus, Tree, Trees, TwoTakes, TwoWord, [], act, act_local_kinds, acts_local_kinds, all_local_kinds}
use Rattle.rpl_compile.proofs.Common.{arith, assign, at, bind, brackets, branch, call, choice, code_kind, code_kinds, cond_both, convert, count_of}
use Rattle.rpl_compile.proofs.Common.{date_kind, difference_kind, each, element_of, first_kind, inl, inr, kind_named, list, list_kind, local_kinds}
use Rattle.rpl_compile.proofs.Common.{mapped, name, nat_lt, no_acts, no_trees, number_kind, numbers_kind, one, one_kind, result_named, reverse}
use Rattle.rpl_compile.proofs.Common.{reverse-append, room_of, slot_kind, slots_kind, subst, sym, takes_named, tree, tree_kind, two, two_kind}
use Rattle.rpl_compile.proofs.Common.{with_name, ℕ, ◌++◌, ◌+◌, ◌<◌, ◌∷◌, ◌⊎◌}
use Rattle.rpl_compile.proofs.Lines.{of_lists}

abbrev pub IsSpelt : Kind → Type 0
IsSpelt kind = IsCodeKind (code_kind kind)

abbrev pub AreSpelt : List Kind → Type 0
AreSpelt = AllByRecursion IsSpelt

pub both_all : {X : Type 0} (P : X → Type 0) (xs ys : List X) → AllByRecursion P xs → AllByRecursion P ys → AllByRecursion P (xs ++ ys)
both_all P [] ys all also = also
both_all P (x ∷ xs) ys all also = (all.0, both_all P xs ys all.1 also)

pub kinds_of_code : (kinds : List Kind) → AreSpelt kinds → AreKinds (code_kinds kinds)
kinds_of_code [] are_spelt = tt
kinds_of_code (kind ∷ kinds) are_spelt = (are_spelt.0, kinds_of_code kinds are_spelt.1)

pub all_reverse : {X : Type 0} (P : X → Type 0) (xs : List X) → AllByRecursion P xs → AllByRecursion P (reverse xs)
all_reverse P [] all = tt
all_reverse P (x ∷ xs) all =
    subst (AllByRecursion P) (sym (reverse-append (x ∷ []) xs)) (both_all P (reverse xs) (x ∷ []) (all_reverse P xs all.1) (all.0, tt))

-- ---- of names and functions

abbrev pub AreNamesSpelt : Names → Type 0
AreNamesSpelt [] = Unit {0}
AreNamesSpelt (entry ∷ names) = IsSpelt entry.1 × AreNamesSpelt names

abbrev pub AreHeadsSpelt : List Head → Type 0
AreHeadsSpelt [] = Unit {0}
AreHeadsSpelt (head ∷ heads) = AreSpelt head.takes × IsSpelt head.result × AreHeadsSpelt heads

named_spelt : (names : Names) (new_name : List ℕ) → AreNamesSpelt names → IsSpelt (kind_named names new_name)
named_spelt [] new_name are_names_spelt = tt
named_spelt (entry ∷ names) new_name are_names_spelt =
    cond_both _ _ _ IsSpelt (λ e. are_names_spelt.0) (λ e. named_spelt names new_name are_names_spelt.1)

result_spelt : (heads : List Head) (function_name : List ℕ) → AreHeadsSpelt heads → IsSpelt (result_named heads function_name)
result_spelt [] function_name are_heads_spelt = tt
result_spelt (head ∷ heads) function_name are_heads_spelt =
    cond_both _ _ _ IsSpelt (λ e. are_heads_spelt.1) (λ e. result_spelt heads function_name are_heads_spelt.2)

pub takes_spelt : (heads : List Head) (function_name : List ℕ) → AreHeadsSpelt heads → AreSpelt (takes_named heads function_name)
takes_spelt [] function_name are_heads_spelt = tt
takes_spelt (head ∷ heads) function_name are_heads_spelt =
    cond_both _ _ _ AreSpelt (λ e. are_heads_spelt.0) (λ e. takes_spelt heads function_name are_heads_spelt.2)

-- ---- of operators

pub room_spelt : (kind : Kind) → IsAnyList kind → IsSpelt kind → IsLength (room_of kind)
room_spelt kind is_any_list = of_lists (λ k. IsSpelt k → IsLength (room_of k)) (λ m g. g) (λ m g. g) kind is_any_list

pub element_spelt : (kind : Kind) → IsSpelt (element_of kind)
element_spelt (slots_kind room) = tt
element_spelt _ = tt

listed_spelt : (n : ℕ) (kind : Kind) → IsElement kind → IsLength n → IsSpelt (list_kind n kind)
listed_spelt n kind (inl e) is_length = subst (λ k. IsSpelt (list_kind n k)) (sym e) is_length
listed_spelt n kind (inr e) is_length = subst (λ k. IsSpelt (list_kind n k)) (sym e) is_length

one_spelt : (word : OneWord) → IsSpelt (one_kind word)
one_spelt Not = tt
one_spelt _ = tt

difference_spelt : (kind other_kind : Kind) → IsSpelt (difference_kind kind other_kind)
difference_spelt date_kind number_kind = tt
difference_spelt _ _ = tt

appended_spelt : (kind other_kind : Kind) → CanAppend kind other_kind → IsSpelt (list_kind (room_of kind + 1) other_kind)
appended_spelt kind other_kind can_append = by can_append.0 can_append.1 can_append.2
  where
    by : (m : ℕ) → m < 4096 → AreBoth (numbers_kind m) number_kind kind other_kind ⊎ AreBoth (slots_kind m) slot_kind kind other_kind
        → IsSpelt (list_kind (room_of kind + 1) other_kind)
    by m less (inl e) =
        subst (λ x. IsSpelt (list_kind (room_of x + 1) other_kind)) (sym e.0)
        (subst (λ x. IsSpelt (list_kind (m + 1) x)) (sym e.1) (omega arith, omega (arith, less)))
    by m less (inr e) =
        subst (λ x. IsSpelt (list_kind (room_of x + 1) other_kind)) (sym e.0)
        (subst (λ x. IsSpelt (list_kind (m + 1) x)) (sym e.1) (omega arith, omega (arith, less)))

two_spelt : (word : TwoWord) (kind other_kind : Kind) → TwoTakes word kind other_kind → IsSpelt kind → IsSpelt (two_kind word kind other_kind)
two_spelt Plus kind other_kind two_takes is_spelt = is_spelt
two_spelt Less_by kind other_kind two_takes is_spelt = difference_spelt kind other_kind
two_spelt Append kind other_kind two_takes is_spelt = appended_spelt kind other_kind two_takes
two_spelt Item kind other_kind two_takes is_spelt = element_spelt kind
two_spelt _ kind other_kind two_takes is_spelt = tt

-- ---- of trees

module _ (basin : Draft) (heads : List Head) (known : AreHeadsSpelt heads) where
  pub tree_spelt : (names : Names) (expression : Tree) → AreNamesSpelt names → IsKinded basin heads names expression
      → IsSpelt (tree_kind heads names expression)
  tree_spelt names (name sought) are_names_spelt is_kinded = named_spelt names sought are_names_spelt
  tree_spelt names (call function_name arguments) are_names_spelt is_kinded = result_spelt heads function_name known
  tree_spelt names (brackets inside) are_names_spelt is_kinded = tree_spelt names inside are_names_spelt is_kinded
  tree_spelt names (list items) are_names_spelt is_kinded =
      listed_spelt (count_of items) (first_kind heads names items) is_kinded.2 (is_kinded.0, is_kinded.1)
  tree_spelt names (choice condition if_true if_false) are_names_spelt is_kinded =
      let first = tree_kind heads names if_true in
      let second = tree_kind heads names if_false in
      cond_both (nat_lt (room_of first) (room_of second)) second first IsSpelt (λ e. tree_spelt names if_false are_names_spelt is_kinded.4)
      (λ e. tree_spelt names if_true are_names_spelt is_kinded.2)
  tree_spelt names (bind new_name value_tree body) are_names_spelt is_kinded =
      tree_spelt ((new_name, tree_kind heads names value_tree) ∷ names) body
      (tree_spelt names value_tree are_names_spelt is_kinded.0, are_names_spelt) is_kinded.1
  tree_spelt names (each item_name source total_name initial body) are_names_spelt is_kinded = tree_spelt names initial are_names_spelt is_kinded.2
  tree_spelt names (mapped item_name source body) are_names_spelt is_kinded =
      room_spelt (tree_kind heads names source) is_kinded.1 (tree_spelt names source are_names_spelt is_kinded.0)
  tree_spelt names (one word operand) are_names_spelt is_kinded = one_spelt word
  tree_spelt names (two word left right) are_names_spelt is_kinded =
      two_spelt word (tree_kind heads names left) (tree_kind heads names right) is_kinded.2 (tree_spelt names left are_names_spelt is_kinded.0)
  tree_spelt names expression are_names_spelt is_kinded = tt

  -- ---- of locals

  mutual
    pub locals_spelt : (names : Names) (expression : Tree) → AreNamesSpelt names → IsKinded basin heads names expression
        → AreSpelt (local_kinds heads names expression)
    locals_spelt names (call function_name arguments) are_names_spelt is_kinded =
        arguments_spelt names (takes_named heads function_name) arguments are_names_spelt is_kinded.1
    locals_spelt names (brackets inside) are_names_spelt is_kinded = locals_spelt names inside are_names_spelt is_kinded
    locals_spelt names (list items) are_names_spelt is_kinded = alike_spelt names (first_kind heads names items) items are_names_spelt is_kinded.3
    locals_spelt names (choice condition if_true if_false) are_names_spelt is_kinded =
        both_all IsSpelt _ _ (locals_spelt names condition are_names_spelt is_kinded.0)
        (both_all IsSpelt _ _ (locals_spelt names if_true are_names_spelt is_kinded.2) (locals_spelt names if_false are_names_spelt is_kinded.4))
    locals_spelt names (bind new_name value_tree body) are_names_spelt is_kinded =
        let own = tree_spelt names value_tree are_names_spelt is_kinded.0 in (
          own,
          both_all IsSpelt _ _ (locals_spelt names value_tree are_names_spelt is_kinded.0)
              (locals_spelt ((new_name, tree_kind heads names value_tree) ∷ names) body (own, are_names_spelt) is_kinded.1),
        )
    locals_spelt names (each item_name source total_name initial body) are_names_spelt is_kinded =
        let element = element_of (tree_kind heads names source) in
        let total = tree_kind heads names initial in
        let own = tree_spelt names initial are_names_spelt is_kinded.2 in (
          element_spelt (tree_kind heads names source),
          (
            own,
            both_all IsSpelt _ _ (locals_spelt names source are_names_spelt is_kinded.0)
                (both_all IsSpelt _ _ (locals_spelt names initial are_names_spelt is_kinded.2)
                (locals_spelt ((total_name, total) ∷ (item_name, element) ∷ names) body
                (own, (element_spelt (tree_kind heads names source), are_names_spelt)) is_kinded.3)),
          ),
        )
    locals_spelt names (mapped item_name source body) are_names_spelt is_kinded =
        let element = element_of (tree_kind heads names source) in
        let own = element_spelt (tree_kind heads names source) in (
          own,
          both_all IsSpelt _ _ (locals_spelt names source are_names_spelt is_kinded.0)
              (locals_spelt ((item_name, element) ∷ names) body (own, are_names_spelt) is_kinded.2),
        )
    locals_spelt names (one word operand) are_names_spelt is_kinded = locals_spelt names operand are_names_spelt is_kinded.0
    locals_spelt names (two word left right) are_names_spelt is_kinded =
        both_all IsSpelt _ _ (locals_spelt names left are_names_spelt is_kinded.0) (locals_spelt names right are_names_spelt is_kinded.1)
    locals_spelt names (convert word object operand) are_names_spelt is_kinded = locals_spelt names operand are_names_spelt is_kinded.1
    locals_spelt names (at slot_tree date) are_names_spelt is_kinded =
        both_all IsSpelt _ _ (locals_spelt names slot_tree are_names_spelt is_kinded.0) (locals_spelt names date are_names_spelt is_kinded.2)
    locals_spelt names expression are_names_spelt is_kinded = tt

    alike_spelt : (names : Names) (kind : Kind) (expressions : Trees) → AreNamesSpelt names → AreOfKind basin heads names kind expressions
        → AreSpelt (all_local_kinds heads names expressions)
    alike_spelt names kind no_trees are_names_spelt are_of_kind = tt
    alike_spelt names kind (tree first others) are_names_spelt are_of_kind =
        both_all IsSpelt _ _ (locals_spelt names first are_names_spelt are_of_kind.0) (alike_spelt names kind others are_names_spelt are_of_kind.2)

    arguments_spelt : (names : Names) (kinds : List Kind) (expressions : Trees) → AreNamesSpelt names
        → AreArguments basin heads names kinds expressions
        → AreSpelt (all_local_kinds heads names expressions)
    arguments_spelt names [] no_trees are_names_spelt are_arguments = tt
    arguments_spelt names [] (tree first others) are_names_spelt are_arguments = absurd are_arguments
    arguments_spelt names (kind ∷ kinds) no_trees are_names_spelt are_arguments = absurd are_arguments
    arguments_spelt names (kind ∷ kinds) (tree first others) are_names_spelt are_arguments =
        both_all IsSpelt _ _ (locals_spelt names first are_names_spelt are_arguments.0)
        (arguments_spelt names kinds others are_names_spelt are_arguments.2)

  mutual
    act_locals_spelt : (names : Names) (statement : Act) → AreNamesSpelt names → IsKindedAct basin heads names statement
        → AreSpelt (act_local_kinds heads names statement)
    act_locals_spelt names (assign object slot_name ahead value_tree) are_names_spelt is_kinded_act =
        locals_spelt names value_tree are_names_spelt is_kinded_act.0
    act_locals_spelt names (branch condition first second) are_names_spelt is_kinded_act =
        both_all IsSpelt _ _ (locals_spelt names condition are_names_spelt is_kinded_act.0)
        (both_all IsSpelt _ _ (acts_locals_spelt names first are_names_spelt is_kinded_act.2)
        (acts_locals_spelt names second are_names_spelt is_kinded_act.3))
    act_locals_spelt names (with_name new_name value_tree body) are_names_spelt is_kinded_act =
        let own = tree_spelt names value_tree are_names_spelt is_kinded_act.0 in (
          own,
          both_all IsSpelt _ _ (locals_spelt names value_tree are_names_spelt is_kinded_act.0)
              (acts_locals_spelt ((new_name, tree_kind heads names value_tree) ∷ names) body (own, are_names_spelt) is_kinded_act.1),
        )

    pub acts_locals_spelt : (names : Names) (statements : Acts) → AreNamesSpelt names → AreKindedActs basin heads names statements
        → AreSpelt (acts_local_kinds heads names statements)
    acts_locals_spelt names no_acts are_names_spelt are_kinded_acts = tt
    acts_locals_spelt names (act first others) are_names_spelt are_kinded_acts =
        both_all IsSpelt _ _ (act_locals_spelt names first are_names_spelt are_kinded_acts.0)
        (acts_locals_spelt names others are_names_spelt are_kinded_acts.1)

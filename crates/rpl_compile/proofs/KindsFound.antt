-- The kinds that are found, where an expression is kinded.
use Rattle.rpl_compile.proofs.Common.{Append, AreBoth, AreOfKind, Callee, CanAppend, Draft, IsKinded, Kind, List, Names, Tree, Trees, TwoTakes}
use Rattle.rpl_compile.proofs.Common.{TwoWord, ap, arith, bind, brackets, call, callee_heads, choice, count_of, each, first_ahead, first_kind, inl}
use Rattle.rpl_compile.proofs.Common.{inr, join, kind_ahead, kind_of_two, list, list_kind, mapped, no_trees, number_kind, numbers_kind, refl, room_of}
use Rattle.rpl_compile.proofs.Common.{short, slot_kind, slots_kind, tree, tree_kind, two, two_kind, ℕ, ◌+◌, ◌∙◌, ◌∷◌, ◌≡◌, ◌⊎◌}
use Rattle.rpl_compile.proofs.Plain.{result_is, short_is}

-- ---- kinds

room_by : (left_kind right_kind : Kind) (room : ℕ) → AreBoth (numbers_kind room) number_kind left_kind right_kind
    ⊎ AreBoth (slots_kind room) slot_kind left_kind right_kind → room_of left_kind ≡ room
room_by left_kind right_kind room (inl h) = ap room_of h.0
room_by left_kind right_kind room (inr h) = ap room_of h.0

appended : (left_kind right_kind : Kind) → CanAppend left_kind right_kind
    → list_kind (short (room_of left_kind + 1)) right_kind ≡ list_kind (room_of left_kind + 1) right_kind
appended left_kind right_kind can_append =
    let room = room_by left_kind right_kind can_append.0 can_append.2 in
    ap (λ n. list_kind n right_kind) (short_is (room_of left_kind + 1) (let lt = can_append.1 in omega (arith, lt, room)))

pub kind_of_two_is : (word : TwoWord) (left_kind right_kind : Kind) → TwoTakes word left_kind right_kind
    → kind_of_two word left_kind right_kind ≡ two_kind word left_kind right_kind
kind_of_two_is Append left_kind right_kind two_takes = appended left_kind right_kind two_takes
kind_of_two_is word left_kind right_kind two_takes = refl

module _ (basin : Draft) (callees : List Callee) where
  mutual
    pub ahead_is : (names : Names) (expression : Tree) → IsKinded basin (callee_heads callees) names expression
        → kind_ahead callees names expression ≡ tree_kind (callee_heads callees) names expression
    ahead_is names (call function_name arguments) is_kinded = result_is callees function_name
    ahead_is names (brackets inside) is_kinded = ahead_is names inside is_kinded
    ahead_is names (list items) is_kinded = λ i. list_kind (short_is (count_of items) is_kinded.1 i) (first_is names _ items is_kinded.3 i)
    ahead_is names (choice condition if_true if_false) is_kinded =
        λ i. join (ahead_is names if_true is_kinded.2 i) (ahead_is names if_false is_kinded.4 i)
    ahead_is names (bind new_name value_tree body) is_kinded =
        ap (λ (kind : Kind). kind_ahead callees ((new_name, kind) ∷ names) body) (ahead_is names value_tree is_kinded.0) ∙ ahead_is _ body is_kinded.1
    ahead_is names (each item_name source total_name initial body) is_kinded = ahead_is names initial is_kinded.2
    ahead_is names (mapped item_name source body) is_kinded = ap (λ (kind : Kind). numbers_kind (room_of kind)) (ahead_is names source is_kinded.0)
    ahead_is names (two word left right) is_kinded =
        (λ i. kind_of_two word (ahead_is names left is_kinded.0 i) (ahead_is names right is_kinded.1 i))
        ∙ kind_of_two_is word (tree_kind (callee_heads callees) names left) (tree_kind (callee_heads callees) names right) is_kinded.2
    ahead_is names expression is_kinded = refl

    pub first_is : (names : Names) (kind : Kind) (expressions : Trees) → AreOfKind basin (callee_heads callees) names kind expressions
        → first_ahead callees names expressions ≡ first_kind (callee_heads callees) names expressions
    first_is names kind no_trees are_of_kind = refl
    first_is names kind (tree first others) are_of_kind = ahead_is names first are_of_kind.0

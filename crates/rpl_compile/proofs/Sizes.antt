-- The code of a tree is as long as its size says.
use Rattle.rpl_compile.proofs.Common.{Act, Acts, And, AreArguments, AreKindedActs, AreOfKind, Bool, Callee, Draft, Instruction, IsKinded, IsKindedAct}
use Rattle.rpl_compile.proofs.Common.{Kind, Known, List, Names, Or, Site, Tree, Trees, [], act, act_code, acts_code, after_tree, all_code, ap₂}
use Rattle.rpl_compile.proofs.Common.{arguments_code, arith, assign, at, bind, brackets, branch, call, callee_heads, choice, choice_lines}
use Rattle.rpl_compile.proofs.Common.{choice_size, code_of, convert, each, element_of, false, if◌then◌else◌, is_same_kind, kind_of_tree, length}
use Rattle.rpl_compile.proofs.Common.{length-append, list, mapped, names_in, no_acts, no_trees, on, one, refl, size, size_of_act, size_of_acts, sizes}
use Rattle.rpl_compile.proofs.Common.{sizes_of_arguments, suc, tree, tree_kind, true, truth_kind, two, widening, widening_size, with_name, ℕ, ◌++◌}
use Rattle.rpl_compile.proofs.Common.{◌+◌, ◌∙◌, ◌∷◌, ◌≡◌}
use Rattle.rpl_code.specs.declared.instruction.Instruction.TheVariants as I

pub beside : (first second : List Instruction) {first_size second_size : ℕ} → length first ≡ first_size → length second ≡ second_size
    → length (first ++ second) ≡ first_size + second_size
beside first second first_counted second_counted = length-append first second
    ∙ ap₂ (λ first_size second_size. first_size + second_size) first_counted second_counted

-- behind one line, and behind two
pub behind-one : (second : List Instruction) {many : ℕ} → length second ≡ many → suc (length second) ≡ 1 + many
behind-one second second_counted = omega (arith, second_counted)

pub behind-two : (second : List Instruction) {many : ℕ} → length second ≡ many → suc (suc (length second)) ≡ 2 + many
behind-two second second_counted = omega (arith, second_counted)

choice-length : (middle last : Site) (result : List Kind) (condition first second : List Instruction) {condition_size first_size second_size : ℕ}
    → length condition ≡ condition_size → length first ≡ first_size
    → length second ≡ second_size
    → length (choice_lines middle last result condition first second) ≡ choice_size condition_size first_size second_size
choice-length middle last result condition first second condition_counted first_counted second_counted =
    beside condition _ condition_counted (behind-one _ (beside first _ first_counted (behind-two _ (beside second _ second_counted refl))))

widened : (same : Bool) (line : Instruction) → length (if same then [] else line ∷ []) ≡ (if same then 0 else 1)
widened true line = refl
widened false line = refl

pub widening-size : (place kind : Kind) → length (widening place kind) ≡ widening_size place kind
widening-size place kind = widened (is_same_kind place kind) _

module _ (basin : Draft) (callees : List Callee) where
  mutual
    pub code-size : (site : Site) (expression : Tree) → IsKinded basin (callee_heads callees) (names_in site.scope) expression
        → length (code_of callees site expression) ≡ size (callee_heads callees) (names_in site.scope) expression
    code-size site (call function_name arguments) is_kinded = beside _ _ (arguments-size site _ arguments is_kinded.1) refl
    code-size site (brackets inside) is_kinded = code-size site inside is_kinded
    code-size site (list items) is_kinded = beside _ _ (all-size site _ items is_kinded.3) refl
    code-size site (choice condition if_true if_false) is_kinded =
        let k = kind_of_tree callees site in
        beside _ _ (code-size site condition is_kinded.0)
        (behind-one _
        (beside _ _ (beside _ _ (code-size _ if_true is_kinded.2) (widening-size (k (choice condition if_true if_false)) (k if_true)))
        (behind-two _
        (beside _ _ (beside _ _ (code-size _ if_false is_kinded.4) (widening-size (k (choice condition if_true if_false)) (k if_false))) refl))))
    code-size site (bind new_name value_tree body) is_kinded =
        beside _ _ (code-size _ value_tree is_kinded.0) (behind-one _ (code-size _ body is_kinded.1))
    code-size site (each item_name source total_name initial body) is_kinded =
        let total = kind_of_tree callees site initial in
        let inside : Names = (total_name, total) ∷ (item_name, element_of (kind_of_tree callees site source)) ∷ names_in site.scope in
        beside _ _ (code-size _ source is_kinded.0)
        (beside _ _ (code-size _ initial is_kinded.2) (behind-two _ (beside _ _ (code-size _ body is_kinded.3)
        (beside _ _ (widening-size total (tree_kind (callee_heads callees) inside body)) refl))))
    code-size site (mapped item_name source body) is_kinded =
        beside _ _ (code-size _ source is_kinded.0) (behind-one _ (beside _ _ (code-size _ body is_kinded.2) refl))
    code-size site (one Known (at slot_tree date)) is_kinded =
        beside _ _ (beside _ _ (code-size site slot_tree is_kinded.0.0) (code-size _ date is_kinded.0.2)) refl ∙ omega arith
    code-size site (one Known operand) is_kinded = absurd is_kinded.1
    code-size site (one word operand) is_kinded = beside _ _ (code-size site operand is_kinded.0) refl
    code-size site (two Or left right) is_kinded =
        let middle = on 1 (on 1 (after_tree callees left site)) in
        choice-length middle (after_tree callees right (on 2 middle)) (truth_kind ∷ site.below) _ (I.Bool true ∷ []) _
        (code-size site left is_kinded.0) refl (code-size (on 2 middle) right is_kinded.1)
    code-size site (two And left right) is_kinded =
        let first = on 1 (after_tree callees left site) in
        choice-length (after_tree callees right first) (on 3 (after_tree callees right first)) (truth_kind ∷ site.below) _ _ (I.Bool false ∷ [])
        (code-size site left is_kinded.0) (code-size first right is_kinded.1) refl
    code-size site (two word left right) is_kinded = beside _ _ (code-size site left is_kinded.0) (beside _ _ (code-size _ right is_kinded.1) refl)
    code-size site (convert word object operand) is_kinded = beside _ _ (code-size site operand is_kinded.1) refl
    code-size site (at slot_tree date) is_kinded = beside _ _ (code-size site slot_tree is_kinded.0) (beside _ _ (code-size _ date is_kinded.2) refl)
    code-size site expression is_kinded = refl

    pub all-size : (site : Site) (kind : Kind) (expressions : Trees) → AreOfKind basin (callee_heads callees) (names_in site.scope) kind expressions
        → length (all_code callees site expressions) ≡ sizes (callee_heads callees) (names_in site.scope) expressions
    all-size site kind no_trees are_of_kind = refl
    all-size site kind (tree first others) are_of_kind = beside _ _ (code-size site first are_of_kind.0) (all-size _ kind others are_of_kind.2)

    pub arguments-size : (site : Site) (kinds : List Kind) (expressions : Trees)
        → AreArguments basin (callee_heads callees) (names_in site.scope) kinds expressions
        → length (arguments_code callees site kinds expressions) ≡ sizes_of_arguments (callee_heads callees) (names_in site.scope) kinds expressions
    arguments-size site [] no_trees are_arguments = refl
    arguments-size site [] (tree first others) are_arguments = absurd are_arguments
    arguments-size site (kind ∷ kinds) no_trees are_arguments = absurd are_arguments
    arguments-size site (kind ∷ kinds) (tree first others) are_arguments =
        beside _ _ (code-size site first are_arguments.0)
        (beside _ _ (widening-size kind (kind_of_tree callees site first)) (arguments-size _ kinds others are_arguments.2))

  mutual
    pub act-size : (site : Site) (statement : Act) → IsKindedAct basin (callee_heads callees) (names_in site.scope) statement
        → length (act_code callees site statement) ≡ size_of_act (callee_heads callees) (names_in site.scope) statement
    act-size site (assign object slot_name ahead value_tree) is_kinded_act = beside _ _ (code-size site value_tree is_kinded_act.0) refl
    act-size site (branch condition first second) is_kinded_act =
        beside _ _ (code-size site condition is_kinded_act.0) (behind-one _ (beside _ _ (acts-size _ first is_kinded_act.2)
        (behind-two _ (beside _ _ (acts-size _ second is_kinded_act.3) refl))))
    act-size site (with_name new_name value_tree body) is_kinded_act =
        beside _ _ (code-size _ value_tree is_kinded_act.0) (behind-one _ (acts-size _ body is_kinded_act.1))

    pub acts-size : (site : Site) (statements : Acts) → AreKindedActs basin (callee_heads callees) (names_in site.scope) statements
        → length (acts_code callees site statements) ≡ size_of_acts (callee_heads callees) (names_in site.scope) statements
    acts-size site no_acts are_kinded_acts = refl
    acts-size site (act first others) are_kinded_acts = beside _ _ (act-size site first are_kinded_acts.0) (acts-size _ others are_kinded_acts.1)

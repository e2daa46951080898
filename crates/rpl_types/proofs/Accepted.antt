-- What is accepted is typed: by recursion on the tree, a line for each form.
use Rattle.rw_base.proofs.Common.{◌≡◌, ◌+◌, ◌++◌, ℕ, ℤ, Bool, Result, true, false, refl, ap, sym, subst, List, [], ◌∷◌, Option, Some, None, is_some}
use Rattle.rw_base.proofs.Common.{Ok, Err, false≢true}
use Rattle.rw_base.specs.Answers.{unless_refused}
use Rattle.rw_model.specs.Draft.{Draft}
use Rattle.rpl_tree.proofs.Common.{budget_of, Tree, Trees, literal, truth, now, slot, name, call, brackets, list, choice, bind, each, mapped, one}
use Rattle.rpl_tree.proofs.Common.{two, convert, at, no_trees, tree, Act, Acts, assign, branch, with_name, no_acts, act, Declared, Parameter, rule}
use Rattle.rpl_tree.proofs.Common.{function}
use Rattle.rpl_tree.specs.declared.words.OneWord.{OneWord}
use Rattle.rpl_tree.specs.declared.words.TwoWord.{TwoWord}
use Rattle.rpl_tree.specs.declared.words.ConvertWord.{ConvertWord}
use Rattle.rpl_tree.specs.declared.rpl_type.RplType.{RplType}
use Rattle.rpl_tree.specs.declared.rpl_type.RplType.TheVariants.{Numeric, Boolean, Datetime, Slot, NumericList, SlotList}
use Rattle.rpl_types.specs.declared.type_kind.TypeKind.{TypeKind}
use Rattle.rpl_types.specs.Fits.{Typed, joined_type, misfit}
use Rattle.rpl_types.specs.Forms.{TypeScope, choice_type, condition_misfit, element_type, target_misfit, total_type}
use Rattle.rpl_types.specs.Functions.{Callable, Signature, param_scope, type_here}
use Rattle.rpl_types.specs.HasType.{AllStand, AreDeclared, HasType, HaveTypes, IsDeclared, IsTyped, Stands}
use Rattle.rpl_types.specs.Judged.{TypeRefusal, and_function, and_then, before_others, cost_refusal, declared_types, function_names, head_refusal}
use Rattle.rpl_types.specs.Judged.{rules_judged, judged_from, refused_as_whole, with_budget}
use Rattle.rpl_types.specs.Nodes.{Expression, Judged, RowTypes, Types, at_node, node_behind, expression, nodes, statement, types_of, types_of_act}
use Rattle.rpl_types.specs.Nodes.{types_of_acts, types_of_all, ◌>>=◌}

-- ---- what was answered before

abbrev is_ok : {R A : Type 0} → Result A R → Bool
is_ok (Ok made) = true
is_ok (Err why) = false

bound : {A B : Type 0} (judged : Judged A) (next : A → Judged B) (given : B) → (judged >>= next) ≡ Ok given → (made : A) × (judged ≡ Ok made)
    × (next made ≡ Ok given)
bound (Ok made) next given accepted = (made, refl, accepted)
bound (Err why) next given accepted = absurd (false≢true (ap is_ok accepted))

abbrev value_or : {R A : Type 0} → A → Result A R → A
value_or otherwise (Ok made) = made
value_or otherwise (Err why) = otherwise

own_is : (number : ℕ) (below : Types) (judged_type : Typed) (answer : Expression) → expression number below judged_type ≡ Ok answer
    → judged_type ≡ Ok answer.own
own_is number below (Ok own) answer accepted =
    ap (λ (its_type : RplType). Ok its_type) (ap (λ (judged : Judged Expression). (value_or answer judged).own) accepted)
own_is number below (Err kind) answer accepted = absurd (false≢true (ap is_ok accepted))

at_is : (number : ℕ) (judged_type : Typed) (own : RplType) → at_node number judged_type ≡ Ok own → judged_type ≡ Ok own
at_is number (Ok t) own accepted = ap (λ (its_type : RplType). Ok its_type) (ap (λ (judged : Judged RplType). value_or own judged) accepted)
at_is number (Err kind) own accepted = absurd (false≢true (ap is_ok accepted))

stood : (number : ℕ) (below all : Types) (found : Option TypeKind) → statement number below found ≡ Ok all → found ≡ None
stood number below all None accepted = refl
stood number below all (Some kind) accepted = absurd (false≢true (ap is_ok accepted))

unrefused : (found : Option TypeKind) (found_type its_type : RplType) → unless_refused found found_type ≡ Ok its_type → (found ≡ None)
    × (found_type ≡ its_type)
unrefused None found_type its_type accepted = (refl, ap (λ (judged_type : Typed). value_or its_type judged_type) accepted)
unrefused (Some kind) found_type its_type accepted = absurd (false≢true (ap is_ok accepted))

tested : (condition_type true_type false_type whole : RplType) → choice_type condition_type true_type false_type ≡ Ok whole
    → (condition_type ≡ Boolean) × (joined_type true_type false_type ≡ Ok whole)
tested Boolean true_type false_type whole accepted = (refl, accepted)
tested (Numeric dimension) true_type false_type whole accepted = absurd (false≢true (ap is_ok accepted))
tested Datetime true_type false_type whole accepted = absurd (false≢true (ap is_ok accepted))
tested (Slot dimension) true_type false_type whole accepted = absurd (false≢true (ap is_ok accepted))
tested (NumericList room dimension) true_type false_type whole accepted = absurd (false≢true (ap is_ok accepted))
tested (SlotList room dimension) true_type false_type whole accepted = absurd (false≢true (ap is_ok accepted))

condition : (condition_type : RplType) → condition_misfit condition_type ≡ None → condition_type ≡ Boolean
condition Boolean none = refl
condition (Numeric dimension) none = absurd (false≢true (sym (ap is_some none)))
condition Datetime none = absurd (false≢true (sym (ap is_some none)))
condition (Slot dimension) none = absurd (false≢true (sym (ap is_some none)))
condition (NumericList room dimension) none = absurd (false≢true (sym (ap is_some none)))
condition (SlotList room dimension) none = absurd (false≢true (sym (ap is_some none)))

as_a_whole : {A : Type 0} (found : Option TypeKind) (made given : A) → refused_as_whole found made ≡ Ok given → (found ≡ None) × (made ≡ given)
as_a_whole None made given accepted = (refl, ap (λ (judged : Judged _). value_or given judged) accepted)
as_a_whole (Some kind) made given accepted = absurd (false≢true (ap is_ok accepted))

behind_it : {A : Type 0} (number : ℕ) (judged : Judged A) (next : A → Result (List A) TypeRefusal) (all : List A)
    → and_then number judged next ≡ Ok all
    → (made : A) × (judged ≡ Ok made) × (next made ≡ Ok all)
behind_it number (Ok made) next all accepted = (made, refl, accepted)
behind_it number (Err why) next all accepted = absurd (false≢true (ap is_ok accepted))

others : {A : Type 0} (made : A) (judged : Result (List A) TypeRefusal) (all : List A) → before_others made judged ≡ Ok all → (rest : List A)
    × (judged ≡ Ok rest)
others made (Ok rest) all accepted = (rest, refl)
others made (Err why) all accepted = absurd (false≢true (ap is_ok accepted))

module _ (basin : Draft) (callable : Callable) where
  abbrev Claim : Tree → Type 0
  Claim form = (scope : TypeScope) (number : ℕ) (answer : Expression) → types_of basin callable scope number form ≡ Ok answer
      → HasType basin callable scope form answer.own

  abbrev ClaimAll : Trees → Type 0
  ClaimAll expressions =
      (scope : TypeScope) (number : ℕ) (row : RowTypes) → types_of_all basin callable scope number expressions ≡ Ok row
      → HaveTypes basin callable scope expressions row.types

  on_call : (function_name : List ℕ) (expressions : Trees) → ClaimAll expressions → Claim (call function_name expressions)
  on_call function_name expressions claim_of_expressions scope number answer accepted =
      let row = bound (types_of_all basin callable scope (number + 1) expressions) _ answer accepted in
      (row.0.types, claim_of_expressions scope (number + 1) row.0 row.1, own_is number row.0.all _ answer row.2)

  on_list : (expressions : Trees) → ClaimAll expressions → Claim (list expressions)
  on_list expressions claim_of_expressions scope number answer accepted =
      let row = bound (types_of_all basin callable scope (number + 1) expressions) _ answer accepted in
      (row.0.types, claim_of_expressions scope (number + 1) row.0 row.1, own_is number row.0.all _ answer row.2)

  on_brackets : (form : Tree) → Claim form → Claim (brackets form)
  on_brackets form claim_of_inside scope number answer accepted =
      let part = bound (types_of basin callable scope (number + 1) form) _ answer accepted in
      let own : part.0.own ≡ answer.own =
      ap (λ (judged_type : Typed). value_or answer.own judged_type) (own_is number (nodes part.0) (Ok part.0.own) answer part.2) in
      subst (HasType basin callable scope form) own (claim_of_inside scope (number + 1) part.0 part.1)

  on_one : (word : OneWord) (operand : Tree) → Claim operand → Claim (one word operand)
  on_one word operand claim_of_inside scope number answer accepted =
      let part = bound (types_of basin callable scope (number + 1) operand) _ answer accepted in
      (part.0.own, claim_of_inside scope (number + 1) part.0 part.1, own_is number (nodes part.0) _ answer part.2)

  on_convert : (word : ConvertWord) (object : List ℕ) (operand : Tree) → Claim operand → Claim (convert word object operand)
  on_convert word object operand claim_of_inside scope number answer accepted =
      let part = bound (types_of basin callable scope (number + 1) operand) _ answer accepted in
      (part.0.own, claim_of_inside scope (number + 1) part.0 part.1, own_is number (nodes part.0) _ answer part.2)

  on_two : (word : TwoWord) (left right : Tree) → Claim left → Claim right → Claim (two word left right)
  on_two word left right claim_of_left claim_of_right scope number answer accepted =
      let left_so = bound (types_of basin callable scope (number + 1) left) _ answer accepted in
      let right_so = bound (types_of basin callable scope (node_behind (number + 1) (nodes left_so.0)) right) _ answer left_so.2 in (
        left_so.0.own,
        right_so.0.own,
        claim_of_left scope _ left_so.0 left_so.1,
        claim_of_right scope _ right_so.0 right_so.1,
        own_is number (nodes left_so.0 ++ nodes right_so.0) _ answer right_so.2,
      )

  on_at : (slot_tree date : Tree) → Claim slot_tree → Claim date → Claim (at slot_tree date)
  on_at slot_tree date claim_of_slot claim_of_date scope number answer accepted =
      let slot_so = bound (types_of basin callable scope (number + 1) slot_tree) _ answer accepted in
      let date_so = bound (types_of basin callable scope (node_behind (number + 1) (nodes slot_so.0)) date) _ answer slot_so.2 in (
        slot_so.0.own,
        date_so.0.own,
        claim_of_slot scope _ slot_so.0 slot_so.1,
        claim_of_date scope _ date_so.0 date_so.1,
        own_is number (nodes slot_so.0 ++ nodes date_so.0) _ answer date_so.2,
      )

  on_choice : (condition if_true if_false : Tree) → Claim condition → Claim if_true → Claim if_false → Claim (choice condition if_true if_false)
  on_choice condition if_true if_false claim_of_condition claim_of_true claim_of_false scope number answer accepted =
      let condition_so = bound (types_of basin callable scope (number + 1) condition) _ answer accepted in
      let true_so = bound (types_of basin callable scope (node_behind (number + 1) (nodes condition_so.0)) if_true) _ answer condition_so.2 in
      let false_so =
      bound (types_of basin callable scope (node_behind (number + 1) (nodes condition_so.0 ++ nodes true_so.0)) if_false) _ answer true_so.2 in
      let found =
      tested condition_so.0.own true_so.0.own false_so.0.own answer.own
      (own_is number (nodes condition_so.0 ++ nodes true_so.0 ++ nodes false_so.0) _ answer false_so.2) in (
        subst (HasType basin callable scope condition) found.0 (claim_of_condition scope _ condition_so.0 condition_so.1),
        true_so.0.own,
        false_so.0.own,
        claim_of_true scope _ true_so.0 true_so.1,
        claim_of_false scope _ false_so.0 false_so.1,
        found.1,
      )

  on_bind : (new_name : List ℕ) (value_tree body : Tree) → Claim value_tree → Claim body → Claim (bind new_name value_tree body)
  on_bind new_name value_tree body claim_of_value claim_of_body scope number answer accepted =
      let value_so = bound (types_of basin callable scope (number + 1) value_tree) _ answer accepted in
      let body_so =
      bound (types_of basin callable ((new_name, value_so.0.own) ∷ scope) (node_behind (number + 1) (nodes value_so.0)) body) _ answer
      value_so.2 in
      let own : body_so.0.own ≡ answer.own =
      ap (λ (judged_type : Typed). value_or answer.own judged_type)
      (own_is number (nodes value_so.0 ++ nodes body_so.0) (Ok body_so.0.own) answer body_so.2) in (
        value_so.0.own,
        claim_of_value scope _ value_so.0 value_so.1,
        subst (HasType basin callable ((new_name, value_so.0.own) ∷ scope) body) own (claim_of_body _ _ body_so.0 body_so.1),
      )

  on_mapped : (item_name : List ℕ) (source body : Tree) → Claim source → Claim body → Claim (mapped item_name source body)
  on_mapped item_name source body claim_of_source claim_of_body scope number answer accepted =
      let source_so = bound (types_of basin callable scope (number + 1) source) _ answer accepted in
      let item = bound (at_node number (element_type source_so.0.own)) _ answer source_so.2 in
      let body_so =
      bound (types_of basin callable ((item_name, item.0) ∷ scope) (node_behind (number + 1) (nodes source_so.0)) body) _ answer item.2 in (
        source_so.0.own,
        item.0,
        body_so.0.own,
        claim_of_source scope _ source_so.0 source_so.1,
        at_is number (element_type source_so.0.own) item.0 item.1,
        claim_of_body _ _ body_so.0 body_so.1,
        own_is number (nodes source_so.0 ++ nodes body_so.0) _ answer body_so.2,
      )

  on_each : (item_name : List ℕ) (source : Tree) (total_name : List ℕ) (initial body : Tree) → Claim source → Claim initial → Claim body
      → Claim (each item_name source total_name initial body)
  on_each item_name source total_name initial body claim_of_source claim_of_initial claim_of_body scope number answer accepted =
      let source_so = bound (types_of basin callable scope (number + 1) source) _ answer accepted in
      let total = bound (types_of basin callable scope (node_behind (number + 1) (nodes source_so.0)) initial) _ answer source_so.2 in
      let item = bound (at_node number (element_type source_so.0.own)) _ answer total.2 in
      let body_so =
      bound (types_of basin callable ((total_name, total.0.own) ∷ (item_name, item.0) ∷ scope)
      (node_behind (number + 1) (nodes source_so.0 ++ nodes total.0)) body) _ answer item.2 in
      let found =
      unrefused (misfit body_so.0.own total.0.own) total.0.own answer.own
      (own_is number (nodes source_so.0 ++ nodes total.0 ++ nodes body_so.0) (total_type total.0.own body_so.0.own) answer body_so.2) in
      subst (HasType basin callable scope (each item_name source total_name initial body)) found.1 (
        source_so.0.own,
        item.0,
        body_so.0.own,
        claim_of_source scope _ source_so.0 source_so.1,
        at_is number (element_type source_so.0.own) item.0 item.1,
        claim_of_initial scope _ total.0 total.1,
        claim_of_body _ _ body_so.0 body_so.1,
        found.0,
      )

  on_tree : (form : Tree) (expressions : Trees) → Claim form → ClaimAll expressions → ClaimAll (tree form expressions)
  on_tree form expressions claim_of_expression claim_of_others scope number row accepted =
      let first_so = bound (types_of basin callable scope number form) _ row accepted in
      let others_so = bound (types_of_all basin callable scope (node_behind number (nodes first_so.0)) expressions) _ row first_so.2 in (
        first_so.0.own,
        others_so.0.types,
        sym (ap (λ (judged : Judged RowTypes). (value_or row judged).types) others_so.2),
        claim_of_expression scope number first_so.0 first_so.1,
        claim_of_others scope _ others_so.0 others_so.1,
      )

  mutual
    has_type : (expression : Tree) → Claim expression
    has_type (literal number unit) = λ scope n answer accepted. own_is n [] _ answer accepted
    has_type (truth is_so) =
        λ scope number answer accepted.
        sym (ap (λ (judged_type : Typed). value_or answer.own judged_type) (own_is number [] (Ok Boolean) answer accepted))
    has_type now =
        λ scope number answer accepted.
        sym (ap (λ (judged_type : Typed). value_or answer.own judged_type) (own_is number [] (Ok Datetime) answer accepted))
    has_type (slot object slot_name) = λ scope number answer accepted. own_is number [] _ answer accepted
    has_type (name sought) = λ scope number answer accepted. own_is number [] _ answer accepted
    has_type (call function_name arguments) = on_call function_name arguments (have_types arguments)
    has_type (brackets inside) = on_brackets inside (has_type inside)
    has_type (list items) = on_list items (have_types items)
    has_type (choice condition if_true if_false) = on_choice condition if_true if_false (has_type condition) (has_type if_true) (has_type if_false)
    has_type (bind new_name value_tree body) = on_bind new_name value_tree body (has_type value_tree) (has_type body)
    has_type (each item_name source total_name initial body) =
        on_each item_name source total_name initial body (has_type source) (has_type initial) (has_type body)
    has_type (mapped item_name source body) = on_mapped item_name source body (has_type source) (has_type body)
    has_type (one word operand) = on_one word operand (has_type operand)
    has_type (two word left right) = on_two word left right (has_type left) (has_type right)
    has_type (convert word object operand) = on_convert word object operand (has_type operand)
    has_type (at slot_tree date) = on_at slot_tree date (has_type slot_tree) (has_type date)

    have_types : (expressions : Trees) → ClaimAll expressions
    have_types no_trees = λ scope number row accepted. sym (ap (λ (judged : Judged RowTypes). (value_or row judged).types) accepted)
    have_types (tree first others) = on_tree first others (has_type first) (have_types others)

  -- ---- statements

  abbrev ClaimAct : Act → Type 0
  ClaimAct form = (scope : TypeScope) (number : ℕ) (all : Types) → types_of_act basin callable scope number form ≡ Ok all
      → Stands basin callable scope form

  abbrev ClaimActs : Acts → Type 0
  ClaimActs statements = (scope : TypeScope) (number : ℕ) (all : Types) → types_of_acts basin callable scope number statements ≡ Ok all
      → AllStand basin callable scope statements

  on_assign : (object slot_name : List ℕ) (ahead : ℤ) (value_tree : Tree) → ClaimAct (assign object slot_name ahead value_tree)
  on_assign object slot_name ahead value_tree scope number all accepted =
      let value_so = bound (types_of basin callable scope (number + 1) value_tree) _ all accepted in (
        value_so.0.own,
        has_type value_tree scope _ value_so.0 value_so.1,
        stood number (nodes value_so.0) all (target_misfit basin object slot_name ahead value_so.0.own) value_so.2,
      )

  on_branch : (condition_tree : Tree) (first second : Acts) → ClaimActs first → ClaimActs second → ClaimAct (branch condition_tree first second)
  on_branch condition_tree first second claim_of_first claim_of_second scope number all accepted =
      let condition_so = bound (types_of basin callable scope (number + 1) condition_tree) _ all accepted in
      let first_so = bound (types_of_acts basin callable scope (node_behind (number + 1) (nodes condition_so.0)) first) _ all condition_so.2 in
      let second_so =
      bound (types_of_acts basin callable scope (node_behind (number + 1) (nodes condition_so.0 ++ first_so.0)) second) _ all first_so.2 in
      let same = condition condition_so.0.own
      (stood number (nodes condition_so.0 ++ first_so.0 ++ second_so.0) all (condition_misfit condition_so.0.own) second_so.2) in (
        subst (HasType basin callable scope condition_tree) same (has_type condition_tree scope _ condition_so.0 condition_so.1),
        claim_of_first scope _ first_so.0 first_so.1,
        claim_of_second scope _ second_so.0 second_so.1,
      )

  on_with : (new_name : List ℕ) (value_tree : Tree) (body : Acts) → ClaimActs body → ClaimAct (with_name new_name value_tree body)
  on_with new_name value_tree body claim_of_body scope number all accepted =
      let value_so = bound (types_of basin callable scope (number + 1) value_tree) _ all accepted in
      let body_so =
      bound (types_of_acts basin callable ((new_name, value_so.0.own) ∷ scope) (node_behind (number + 1) (nodes value_so.0)) body) _ all
      value_so.2 in
      (value_so.0.own, has_type value_tree scope _ value_so.0 value_so.1, claim_of_body _ _ body_so.0 body_so.1)

  on_act : (form : Act) (rest : Acts) → ClaimAct form → ClaimActs rest → ClaimActs (act form rest)
  on_act form rest claim_of_statement claim_of_rest scope number all accepted =
      let first_so = bound (types_of_act basin callable scope number form) _ all accepted in
      let rest_so = bound (types_of_acts basin callable scope (node_behind number first_so.0) rest) _ all first_so.2 in
      (claim_of_statement scope number first_so.0 first_so.1, claim_of_rest scope _ rest_so.0 rest_so.1)

  mutual
    stands : (statement : Act) → ClaimAct statement
    stands (assign object slot_name ahead value_tree) = on_assign object slot_name ahead value_tree
    stands (branch condition first second) = on_branch condition first second (all_stand first) (all_stand second)
    stands (with_name new_name value_tree body) = on_with new_name value_tree body (all_stand body)

    all_stand : (statements : Acts) → ClaimActs statements
    all_stand no_acts = λ scope number all accepted. tt
    all_stand (act first others) = on_act first others (stands first) (all_stand others)

  -- ---- declarations

  is_declared : (declaration : Declared) (types : Types) → declared_types basin callable declaration ≡ Ok types
      → IsDeclared basin callable declaration
  is_declared (rule called_so body) types accepted = all_stand body [] 1 types accepted
  is_declared (function called_so parameters result body) types accepted =
      let head = bound (refused_as_whole (head_refusal callable.earlier called_so parameters result) parameters) _ types accepted in
      let body_so = bound (types_of basin callable (param_scope head.0) 1 body) _ types head.2 in
      let fine = as_a_whole (head_refusal callable.earlier called_so parameters result) parameters head.0 head.1 in
      let fits = as_a_whole (misfit body_so.0.own (type_here result)) (nodes body_so.0) types body_so.2 in
      let typed = has_type body (param_scope head.0) 1 body_so.0 body_so.1 in
      (fine.0, body_so.0.own, subst (λ (qs : List Parameter). HasType basin callable (param_scope qs) body body_so.0.own) (sym fine.1) typed, fits.0)

are_declared : (basin : Draft) (rules : List Declared) (number : ℕ) (earlier : List Signature) (declarations : List Declared) (all : List Types)
    → judged_from basin rules number earlier declarations ≡ Ok all → AreDeclared basin rules number earlier declarations
are_declared basin rules number earlier [] all accepted = tt
are_declared basin rules number earlier (declaration ∷ declarations) all accepted =
    let callable : Callable = record { earlier = earlier; later = function_names (declaration ∷ declarations) } in
    let own = behind_it number (with_budget basin callable (budget_of rules number) declaration) _ all accepted in
    let types = bound (declared_types basin callable declaration) _ own.0 own.1 in
    let cheap = as_a_whole (cost_refusal (budget_of rules number)) types.0 own.0 types.2 in
    let rest = others own.0 (judged_from basin rules (number + 1) (and_function declaration earlier) declarations) all own.2 in (
      is_declared basin callable declaration types.0 types.1,
      cheap.0,
      are_declared basin rules (number + 1) (and_function declaration earlier) declarations rest.0 rest.1,
    )

pub accepted : (basin : Draft) (rules : List Declared) (all : List Types) → rules_judged basin rules ≡ Ok all → IsTyped basin rules
accepted basin rules all judged_so = are_declared basin rules 1 [] rules all judged_so

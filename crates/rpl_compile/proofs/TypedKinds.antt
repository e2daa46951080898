-- A ruleset that is accepted is of the kinds that its code asks for: by recursion on the tree, a line or two for each form.
use Rattle.rpl_compile.proofs.Common.{Act, Acts, AllStand, AreArguments, AreDeclared, AreKinded, AreKindedActs, AreKindedFrom, AreOfKind, Bool}
use Rattle.rpl_compile.proofs.Common.{Boolean, Callable, ConvertWord, Day, Declared, Dimension, Draft, Err, FitsIn, HasName, HasType, HaveTypes, Head}
use Rattle.rpl_compile.proofs.Common.{IsAnyList, IsAsked, IsElement, IsKinded, IsKindedAct, IsKindedBody, IsLiteral, IsSome, IsSomeAnd, IsTrue}
use Rattle.rpl_compile.proofs.Common.{IsTyped, Kind, Known, Length, List, LiteralRange, Minus, Month, Names, None, Not, Numeric, Ok, OneTakes}
use Rattle.rpl_compile.proofs.Common.{OneWord, Option, RplType, Signature, Slot, Some, Stands, Tree, Trees, TwoTakes, TwoWord, TypeScope, Year, []}
use Rattle.rpl_compile.proofs.Common.{act, and_function, ap, ap₂, arith, assign, at, bind, brackets, branch, bytes_eq, call, can_set, choice, convert}
use Rattle.rpl_compile.proofs.Common.{count_of, each, element_of, false, found_slot_type, found_target_misfit, function, function_heads}
use Rattle.rpl_compile.proofs.Common.{function_names, if◌then◌else◌, is_look, is_quantity, is_some, join, kind_named, kind_of_type, length, list}
use Rattle.rpl_compile.proofs.Common.{list_any, list_kind, literal, literal_in_unit, mapped, misfit, name, name_type, no_acts, no_trees, now}
use Rattle.rpl_compile.proofs.Common.{number_kind, numbers_kind, object_named, one, param_scope, predefined_functions, refl, room_of, rule, slot}
use Rattle.rpl_compile.proofs.Common.{slot_kind, slot_named, subst, sym, table_named, takes_named, tree, tree_kind, true, truth, two, two_kind}
use Rattle.rpl_compile.proofs.Common.{type_here, unit_in, units, unwrap_or, with_name, ℕ, ℤ, ◌*ℤ◌, ◌+◌, ◌||◌, ◌∙◌, ◌∷◌, ◌≡◌}
use Rattle.rw_model.specs.Links.{dim_of}
use Rattle.rpl_tree.specs.World.{can_put_ahead}
use Rattle.rpl_types.specs.declared.type_kind.TypeKind.TheVariants.{NotSettable, TargetStep}
use Rattle.rpl_compile.proofs.TypeKinds.{AreAlike, IsPlain, Listed, convert_takes, element_is, kind_of_rpl_type, kinds_fit, kinds_join, known_takes}
use Rattle.rpl_compile.proofs.TypeKinds.{list_takes, look_takes, mapped_takes, measured_number, one_takes, same_kind, two_takes, typed}
use Rattle.rpl_compile.proofs.CallKinds.{FitTypes, Matches, call_takes, fresh, matches_none, type_names, with_function}

-- ---- leaves

literal_found : (number : ℤ) (unit : Option (Dimension × ℤ)) (its_type : RplType) → literal_in_unit number unit ≡ Ok its_type
    → (number_kind ≡ kind_of_rpl_type its_type) × IsLiteral number unit
literal_found number None its_type accepted = absurd (cc accepted)
literal_found number (Some unit) its_type accepted = by (is_quantity (number *ℤ unit.1)) accepted
  where
    by : (test : Bool) → (if test then typed (Numeric unit.0) else Err LiteralRange) ≡ Ok its_type → (number_kind ≡ kind_of_rpl_type its_type)
        × IsTrue test
    by true accepted = (same_kind (Numeric unit.0) its_type accepted, refl)
    by false accepted = absurd (cc accepted)

slot_found : (basin : Draft) (found : Option ℕ) (its_type : RplType) → found_slot_type basin found ≡ Ok its_type
    → (slot_kind ≡ kind_of_rpl_type its_type) × IsSome found
slot_found basin None its_type accepted = absurd (cc accepted)
slot_found basin (Some s) its_type accepted = (same_kind (Slot (dim_of basin.objects s)) its_type accepted, refl)

name_found : (scope : TypeScope) (sought : List ℕ) (its_type : RplType) → name_type scope sought ≡ Ok its_type
    → (kind_named (type_names scope) sought ≡ kind_of_rpl_type its_type) × HasName (type_names scope) sought
name_found [] sought its_type accepted = absurd (cc accepted)
name_found (variable ∷ scope) sought its_type accepted = by (bytes_eq variable.0 sought) accepted (λ g. name_found scope sought its_type g)
  where
    by : (test : Bool) → (if test then Ok variable.1 else name_type scope sought) ≡ Ok its_type
        → (name_type scope sought ≡ Ok its_type → (kind_named (type_names scope) sought ≡ kind_of_rpl_type its_type)
        × HasName (type_names scope) sought)
        → ((if test then kind_of_rpl_type variable.1 else kind_named (type_names scope) sought) ≡ kind_of_rpl_type its_type)
        × IsTrue (test || list_any (λ (entry : List ℕ × Kind). bytes_eq entry.0 sought) (type_names scope))
    by true accepted later = (same_kind variable.1 its_type accepted, refl)
    by false accepted later = later accepted

target_found : (basin : Draft) (found : Option ℕ) (ahead : ℤ) (its_type : RplType) → found_target_misfit basin found ahead its_type ≡ None
    → (kind_of_rpl_type its_type ≡ number_kind) × IsSomeAnd found (λ s. IsTrue (can_set basin s)) × IsTrue (can_put_ahead basin ahead)
target_found basin None ahead its_type none = absurd (cc none)
target_found basin (Some s) ahead its_type none = by (can_set basin s) (can_put_ahead basin ahead) none
  where
    by : (settable near : Bool)
        → (if settable then (if near then misfit its_type (Numeric (dim_of basin.objects s)) else Some TargetStep) else Some NotSettable) ≡ None
        → (kind_of_rpl_type its_type ≡ number_kind) × IsTrue settable × IsTrue near
    by true true none = (measured_number its_type (dim_of basin.objects s) none, refl, refl)
    by true false none = absurd (cc none)
    by false near none = absurd (cc none)

-- ---- words

asked_always : (word : OneWord) (expression : Tree) → IsPlain word → IsAsked word expression
asked_always Known expression is_plain = absurd is_plain
asked_always _ expression is_plain = tt

fit_first : (left_kind right_kind left_known right_known : Kind) → left_kind ≡ left_known → right_kind ≡ right_known
    → FitsIn (join left_known right_known) left_known → FitsIn (join left_kind right_kind) left_kind
fit_first left_kind right_kind left_known right_known left_kind_is right_kind_is fits_in =
    subst (λ x. FitsIn (join x right_kind) x) (sym left_kind_is) (subst (λ y. FitsIn (join left_known y) left_known) (sym right_kind_is) fits_in)

fit_second : (left_kind right_kind left_known right_known : Kind) → left_kind ≡ left_known → right_kind ≡ right_known
    → FitsIn (join left_known right_known) right_known → FitsIn (join left_kind right_kind) right_kind
fit_second left_kind right_kind left_known right_known left_kind_is right_kind_is fits_in =
    subst (λ x. FitsIn (join x right_kind) right_kind) (sym left_kind_is) (subst (λ y. FitsIn (join left_known y) y) (sym right_kind_is) fits_in)

module _ (basin : Draft) (callable : Callable) (heads : List Head) (matches : Matches callable.earlier heads) where
  -- an expression has the kind of its type, and is of the kinds that are asked for
  abbrev Kinded : Names → Tree → Kind → Type 0
  Kinded names expression kind = (tree_kind heads names expression ≡ kind) × IsKinded basin heads names expression

  abbrev Claim : Tree → Type 0
  Claim expression = (scope : TypeScope) (its_type : RplType) → HasType basin callable scope expression its_type
      → Kinded (type_names scope) expression (kind_of_rpl_type its_type)

  abbrev AllKinded : TypeScope → Trees → List RplType → Type 0
  AllKinded scope no_trees types = types ≡ []
  AllKinded scope (tree head others) types =
      (first : RplType) × (rest : List RplType) × (types ≡ first ∷ rest) × Kinded (type_names scope) head (kind_of_rpl_type first)
      × AllKinded scope others rest

  abbrev ClaimAll : Trees → Type 0
  ClaimAll expressions = (scope : TypeScope) (types : List RplType) → HaveTypes basin callable scope expressions types
      → AllKinded scope expressions types

  looked : (expression : Tree) (names : Names) → is_look expression ≡ true → IsAsked Known expression
      × (tree_kind heads names expression ≡ number_kind)
  looked (at slot_tree date) names holds = (tt, refl)
  looked _ names holds = absurd (cc holds)

  of_kind : (scope : TypeScope) (expressions : Trees) (types : List RplType) (kind : Kind) → AllKinded scope expressions types → AreAlike kind types
      → AreOfKind basin heads (type_names scope) kind expressions
  of_kind scope no_trees types kind all_kinded are_alike = tt
  of_kind scope (tree first others) types kind all_kinded are_alike = let alike_so = subst (AreAlike kind) all_kinded.2 are_alike in
      (all_kinded.3.1, all_kinded.3.0 ∙ alike_so.0, of_kind scope others all_kinded.1 kind all_kinded.4 alike_so.1)

  count_is : (scope : TypeScope) (expressions : Trees) (types : List RplType) → AllKinded scope expressions types
      → count_of expressions ≡ length types
  count_is scope no_trees types all_kinded = ap length (sym all_kinded)
  count_is scope (tree first others) types all_kinded = let others_counted = count_is scope others all_kinded.1 all_kinded.4 in
      let counted = ap length all_kinded.2 in omega (arith, others_counted, counted)

  arguments : (scope : TypeScope) (expressions : Trees) (types : List RplType) (kinds : List Kind) → AllKinded scope expressions types
      → FitTypes kinds types
      → AreArguments basin heads (type_names scope) kinds expressions
  arguments scope no_trees types [] all_kinded fit_types = tt
  arguments scope no_trees types (kind ∷ kinds) all_kinded fit_types = absurd (subst (FitTypes (kind ∷ kinds)) all_kinded fit_types)
  arguments scope (tree first others) types [] all_kinded fit_types = absurd (subst (FitTypes []) all_kinded.2 fit_types)
  arguments scope (tree first others) types (kind ∷ kinds) all_kinded fit_types =
      let fit_so = subst (FitTypes (kind ∷ kinds)) all_kinded.2 fit_types in
      (all_kinded.3.1, subst (FitsIn kind) (sym all_kinded.3.0) fit_so.0, arguments scope others all_kinded.1 kinds all_kinded.4 fit_so.1)

  on_call : (function_name : List ℕ) (expressions : Trees) → ClaimAll expressions → Claim (call function_name expressions)
  on_call function_name expressions claim_of_expressions scope its_type has_type =
      let call_so = call_takes callable heads function_name has_type.0 its_type matches has_type.2 in (
        call_so.result_is,
        (
          call_so.has,
          arguments scope expressions has_type.0 (takes_named heads function_name) (claim_of_expressions scope has_type.0 has_type.1) call_so.fit,
        ),
      )

  listed : (scope : TypeScope) (expressions : Trees) (types : List RplType) (its_type : RplType) → AllKinded scope expressions types
      → Listed types its_type
      → Kinded (type_names scope) (list expressions) (kind_of_rpl_type its_type)
  listed scope no_trees types its_type all_kinded listed_so = absurd (cc (all_kinded, listed_so.are))
  listed scope (tree head others) types its_type all_kinded listed_so =
      let names : Names = type_names scope in
      let one : all_kinded.0 ∷ all_kinded.1 ≡ listed_so.first ∷ listed_so.rest = sym all_kinded.2 ∙ listed_so.are in
      let first : all_kinded.0 ≡ listed_so.first = cc one in
      let rest : listed_so.rest ≡ all_kinded.1 = cc one in
      let kind : tree_kind heads names head ≡ kind_of_rpl_type listed_so.first = all_kinded.3.0 ∙ ap kind_of_rpl_type first in
      let count : count_of others ≡ length listed_so.rest = count_is scope others all_kinded.1 all_kinded.4 ∙ ap length (sym rest) in
      let same = of_kind scope others all_kinded.1 (kind_of_rpl_type listed_so.first) all_kinded.4
      (subst (AreAlike (kind_of_rpl_type listed_so.first)) rest listed_so.alike) in (
        ap₂ (λ n k. list_kind (n + 1) k) count kind ∙ listed_so.whole,
        (
          omega arith,
          omega (arith, count, listed_so.short),
          subst IsElement (sym kind) listed_so.element,
          (all_kinded.3.1, refl, subst (λ k. AreOfKind basin heads names k others) (sym kind) same),
        ),
      )

  on_list : (expressions : Trees) → ClaimAll expressions → Claim (list expressions)
  on_list expressions claim_of_expressions scope its_type has_type =
      listed scope expressions has_type.0 its_type (claim_of_expressions scope has_type.0 has_type.1) (list_takes has_type.0 its_type has_type.2)

  on_choice : (condition if_true if_false : Tree) → Claim condition → Claim if_true → Claim if_false → Claim (choice condition if_true if_false)
  on_choice condition if_true if_false claim_of_condition claim_of_true claim_of_false scope its_type has_type =
      let names : Names = type_names scope in
      let condition_so = claim_of_condition scope Boolean has_type.0 in
      let true_so = claim_of_true scope has_type.1 has_type.3 in
      let false_so = claim_of_false scope has_type.2 has_type.4 in
      let joins = kinds_join has_type.1 has_type.2 its_type has_type.5 in
      let true_kind = tree_kind heads names if_true in
      let false_kind = tree_kind heads names if_false in (
        ap₂ join true_so.0 false_so.0 ∙ joins.0,
        (
          condition_so.1,
          condition_so.0,
          true_so.1,
          fit_first true_kind false_kind (kind_of_rpl_type has_type.1) (kind_of_rpl_type has_type.2) true_so.0 false_so.0 joins.1,
          false_so.1,
          fit_second true_kind false_kind (kind_of_rpl_type has_type.1) (kind_of_rpl_type has_type.2) true_so.0 false_so.0 joins.2,
        ),
      )

  -- an expression that knows a name more
  inside : (item_name : List ℕ) (own_kind known_kind kind : Kind) (names : Names) (body : Tree) → own_kind ≡ known_kind
      → Kinded ((item_name, known_kind) ∷ names) body kind → Kinded ((item_name, own_kind) ∷ names) body kind
  inside item_name own_kind known_kind kind names body kind_is kinded = subst (λ k. Kinded ((item_name, k) ∷ names) body kind) (sym kind_is) kinded

  on_bind : (new_name : List ℕ) (value_tree body : Tree) → Claim value_tree → Claim body → Claim (bind new_name value_tree body)
  on_bind new_name value_tree body claim_of_value claim_of_body scope its_type has_type =
      let value_so = claim_of_value scope has_type.0 has_type.1 in
      let body_so = inside new_name _ _ _ (type_names scope) body value_so.0 (claim_of_body ((new_name, has_type.0) ∷ scope) its_type has_type.2) in
      (body_so.0, (value_so.1, body_so.1))

  on_each : (item_name : List ℕ) (source : Tree) (total_name : List ℕ) (initial body : Tree) → Claim source → Claim initial → Claim body
      → Claim (each item_name source total_name initial body)
  on_each item_name source total_name initial body claim_of_source claim_of_initial claim_of_body scope its_type has_type =
      let names : Names = type_names scope in
      let source_so = claim_of_source scope has_type.0 has_type.3 in
      let elements = element_is has_type.0 has_type.1 has_type.4 in
      let initial_so = claim_of_initial scope its_type has_type.5 in
      let item : element_of (tree_kind heads names source) ≡ kind_of_rpl_type has_type.1 = ap element_of source_so.0 ∙ elements.1 in
      let turn = claim_of_body ((total_name, its_type) ∷ (item_name, has_type.1) ∷ scope) has_type.2 has_type.6 in
      let body_so =
      subst (λ k. Kinded ((total_name, tree_kind heads names initial) ∷ (item_name, k) ∷ names) body (kind_of_rpl_type has_type.2)) (sym item)
      (inside total_name _ _ _ ((item_name, kind_of_rpl_type has_type.1) ∷ names) body initial_so.0 turn) in
      let fit = kinds_fit has_type.2 its_type has_type.7 in (
        initial_so.0,
        (
          source_so.1,
          subst IsAnyList (sym source_so.0) elements.0,
          initial_so.1,
          body_so.1,
          subst (FitsIn (tree_kind heads names initial)) (sym body_so.0) (subst (λ k. FitsIn k (kind_of_rpl_type has_type.2)) (sym initial_so.0) fit),
        ),
      )

  on_mapped : (item_name : List ℕ) (source body : Tree) → Claim source → Claim body → Claim (mapped item_name source body)
  on_mapped item_name source body claim_of_source claim_of_body scope its_type has_type =
      let names : Names = type_names scope in
      let source_so = claim_of_source scope has_type.0 has_type.3 in
      let elements = element_is has_type.0 has_type.1 has_type.4 in
      let item : element_of (tree_kind heads names source) ≡ kind_of_rpl_type has_type.1 = ap element_of source_so.0 ∙ elements.1 in
      let body_so = inside item_name _ _ _ names body item (claim_of_body ((item_name, has_type.1) ∷ scope) has_type.2 has_type.5) in
      let mapped_so = mapped_takes has_type.0 has_type.2 its_type has_type.6 in (
        ap (λ k. numbers_kind (room_of k)) source_so.0
            ∙ mapped_so.0,
        (source_so.1, subst IsAnyList (sym source_so.0) elements.0, body_so.1, body_so.0 ∙ mapped_so.1),
      )

  on_known : (operand : Tree) → Claim operand → Claim (one Known operand)
  on_known operand claim_of_operand scope its_type has_type =
      let known_so = known_takes (is_look operand) has_type.0 its_type has_type.2 in
      let asked = looked operand (type_names scope) known_so.0 in
      (known_so.1, ((claim_of_operand scope has_type.0 has_type.1).1, asked.0, asked.1))

  on_one : (word : OneWord) (operand : Tree) → IsPlain word → Claim operand → Claim (one word operand)
  on_one word operand plain claim_of_operand scope its_type has_type =
      let operand_so = claim_of_operand scope has_type.0 has_type.1 in
      let one_so = one_takes word (is_look operand) has_type.0 its_type plain has_type.2 in
      (one_so.0, (operand_so.1, asked_always word operand plain, subst (OneTakes word) (sym operand_so.0) one_so.1))

  on_two : (word : TwoWord) (left right : Tree) → Claim left → Claim right → Claim (two word left right)
  on_two word left right claim_of_left claim_of_right scope its_type has_type =
      let left_so = claim_of_left scope has_type.0 has_type.2 in
      let right_so = claim_of_right scope has_type.1 has_type.3 in
      let two_so = two_takes word has_type.0 has_type.1 its_type has_type.4 in (
        ap₂ (two_kind word) left_so.0 right_so.0 ∙ two_so.0,
        (
          left_so.1,
          right_so.1,
          subst (λ k. TwoTakes word k (tree_kind heads (type_names scope) right)) (sym left_so.0)
              (subst (TwoTakes word (kind_of_rpl_type has_type.0)) (sym right_so.0) two_so.1),
        ),
      )

  on_convert : (word : ConvertWord) (object : List ℕ) (operand : Tree) → Claim operand → Claim (convert word object operand)
  on_convert word object operand claim_of_operand scope its_type has_type =
      let operand_so = claim_of_operand scope has_type.0 has_type.1 in
      let convert_so =
      convert_takes word (is_some (object_named basin.objects object)) (is_some (table_named basin object)) has_type.0 its_type has_type.2 in
      (convert_so.0, (convert_so.1, operand_so.1, operand_so.0 ∙ convert_so.2))

  on_at : (slot_tree date : Tree) → Claim slot_tree → Claim date → Claim (at slot_tree date)
  on_at slot_tree date claim_of_slot claim_of_date scope its_type has_type =
      let slot_so = claim_of_slot scope has_type.0 has_type.2 in
      let date_so = claim_of_date scope has_type.1 has_type.3 in
      let look_so = look_takes has_type.0 has_type.1 its_type has_type.4 in
      (look_so.0, (slot_so.1, slot_so.0 ∙ look_so.1, date_so.1, date_so.0 ∙ look_so.2))

  mutual
    pub tree_kinded : (value_tree : Tree) → Claim value_tree
    tree_kinded (literal number unit) = λ scope its_type has_type. literal_found number (unit_in units (unwrap_or unit [])) its_type has_type
    tree_kinded (truth is_so) = λ scope its_type has_type. (ap kind_of_rpl_type (sym has_type), tt)
    tree_kinded now = λ scope its_type has_type. (ap kind_of_rpl_type (sym has_type), tt)
    tree_kinded (slot object slot_name) = λ scope its_type has_type. slot_found basin (slot_named basin.objects object slot_name) its_type has_type
    tree_kinded (name sought) = λ scope its_type has_type. name_found scope sought its_type has_type
    tree_kinded (call function_name arguments) = on_call function_name arguments (trees_kinded arguments)
    tree_kinded (brackets inside) = λ scope its_type has_type. tree_kinded inside scope its_type has_type
    tree_kinded (list items) = on_list items (trees_kinded items)
    tree_kinded (choice condition if_true if_false) =
        on_choice condition if_true if_false (tree_kinded condition) (tree_kinded if_true) (tree_kinded if_false)
    tree_kinded (bind new_name value_tree body) = on_bind new_name value_tree body (tree_kinded value_tree) (tree_kinded body)
    tree_kinded (each item_name source total_name initial body) =
        on_each item_name source total_name initial body (tree_kinded source) (tree_kinded initial) (tree_kinded body)
    tree_kinded (mapped item_name source body) = on_mapped item_name source body (tree_kinded source) (tree_kinded body)
    tree_kinded (one Known operand) = on_known operand (tree_kinded operand)
    tree_kinded (one Not operand) = on_one Not operand tt (tree_kinded operand)
    tree_kinded (one Minus operand) = on_one Minus operand tt (tree_kinded operand)
    tree_kinded (one Length operand) = on_one Length operand tt (tree_kinded operand)
    tree_kinded (one Month operand) = on_one Month operand tt (tree_kinded operand)
    tree_kinded (one Day operand) = on_one Day operand tt (tree_kinded operand)
    tree_kinded (one Year operand) = on_one Year operand tt (tree_kinded operand)
    tree_kinded (two word left right) = on_two word left right (tree_kinded left) (tree_kinded right)
    tree_kinded (convert word object operand) = on_convert word object operand (tree_kinded operand)
    tree_kinded (at slot_tree date) = on_at slot_tree date (tree_kinded slot_tree) (tree_kinded date)

    trees_kinded : (expressions : Trees) → ClaimAll expressions
    trees_kinded no_trees = λ scope types have_types. have_types
    trees_kinded (tree first others) =
        λ scope types have_types. (
          have_types.0,
          have_types.1,
          have_types.2,
          tree_kinded first scope have_types.0 have_types.3,
          trees_kinded others scope have_types.1 have_types.4,
        )

  -- ---- statements

  abbrev ClaimAct : Act → Type 0
  ClaimAct statement = (scope : TypeScope) → Stands basin callable scope statement → IsKindedAct basin heads (type_names scope) statement

  abbrev ClaimActs : Acts → Type 0
  ClaimActs statements = (scope : TypeScope) → AllStand basin callable scope statements → AreKindedActs basin heads (type_names scope) statements

  on_assign : (object slot_name : List ℕ) (ahead : ℤ) (value_tree : Tree) → ClaimAct (assign object slot_name ahead value_tree)
  on_assign object slot_name ahead value_tree scope stands =
      let value_so = tree_kinded value_tree scope stands.0 stands.1 in
      let target_so = target_found basin (slot_named basin.objects object slot_name) ahead stands.0 stands.2 in
      (value_so.1, value_so.0 ∙ target_so.0, (target_so.1, target_so.2))

  on_with : (new_name : List ℕ) (value_tree : Tree) (body : Acts) → ClaimActs body → ClaimAct (with_name new_name value_tree body)
  on_with new_name value_tree body claim_of_body scope stands =
      let value_so = tree_kinded value_tree scope stands.0 stands.1 in (
        value_so.1,
        subst (λ k. AreKindedActs basin heads ((new_name, k) ∷ type_names scope) body) (sym value_so.0)
            (claim_of_body ((new_name, stands.0) ∷ scope) stands.2),
      )

  mutual
    act_kinded : (statement : Act) → ClaimAct statement
    act_kinded (assign object slot_name ahead value_tree) = on_assign object slot_name ahead value_tree
    act_kinded (branch condition first second) = λ scope stands.
        let condition_so = tree_kinded condition scope Boolean stands.0 in
        (condition_so.1, condition_so.0, acts_kinded first scope stands.1, acts_kinded second scope stands.2)
    act_kinded (with_name new_name value_tree body) = on_with new_name value_tree body (acts_kinded body)

    pub acts_kinded : (statements : Acts) → ClaimActs statements
    acts_kinded no_acts = λ scope all_stand. tt
    acts_kinded (act first others) = λ scope all_stand. (act_kinded first scope all_stand.0, acts_kinded others scope all_stand.1)

-- ---- rulesets

kinded_from : (basin : Draft) (rules : List Declared) (number : ℕ) (earlier : List Signature) (heads : List Head) (declarations : List Declared)
    → Matches earlier heads
    → AreDeclared basin rules number earlier declarations → AreKindedFrom basin heads declarations
kinded_from basin rules number earlier heads [] matches are_declared = tt
kinded_from basin rules number earlier heads (rule called_so body ∷ declarations) matches are_declared =
    let callable : Callable = record { earlier = earlier; later = function_names (rule called_so body ∷ declarations) } in (
      acts_kinded basin callable heads matches body [] are_declared.0,
      kinded_from basin rules (number + 1) earlier heads declarations matches are_declared.2,
    )
kinded_from basin rules number earlier heads (function called_so parameters result body ∷ declarations) matches are_declared =
    let callable : Callable = record { earlier = earlier; later = function_names (function called_so parameters result body ∷ declarations) } in
    let own = are_declared.0 in
    let new = fresh earlier called_so parameters result own.0 in
    let body_so = tree_kinded basin callable heads matches body (param_scope parameters) own.1 own.2 in
    let fit = kinds_fit own.1 (type_here result) own.3 in
    let typed_body : IsKindedBody basin heads (type_names (param_scope parameters)) (kind_of_type result) body = (
      body_so.1,
      subst (FitsIn (kind_of_type result)) (sym body_so.0) (subst (λ number. FitsIn number (kind_of_rpl_type own.1)) new.kinds.result_is fit),
    ) in (
      subst (λ names. IsKindedBody basin heads names (kind_of_type result) body) new.kinds.names typed_body,
      kinded_from basin rules (number + 1) (and_function (function called_so parameters result body) earlier) _ declarations
          (with_function earlier heads called_so parameters result matches new) are_declared.2,
    )

pub typed_is_kinded : (basin : Draft) (rules : List Declared) → IsTyped basin rules → AreKinded basin rules
typed_is_kinded basin rules is_typed = kinded_from basin rules 1 [] (function_heads predefined_functions) rules matches_none is_typed

-- The code of expressions and statements can be spelt: by recursion on the tree, a line or two for each form.
use Rattle.rpl_compile.proofs.Common.{Act, Acts, And, AreArguments, AreKindedActs, AreOfKind, Callee, Draft, IsBasin, IsKinded, IsKindedAct, IsNumber}
use Rattle.rpl_compile.proofs.Common.{Kind, Known, List, Or, Site, Tree, Trees, [], act, act_code, act_locals, acts_code, acts_locals, after_act}
use Rattle.rpl_compile.proofs.Common.{after_acts, after_room, after_tree, all_code, arguments_code, arith, asked_code, assign, at, bind, bound}
use Rattle.rpl_compile.proofs.Common.{brackets, branch, call, callee_heads, choice, code_of, convert, each, element_of, false, first_kind, keeping}
use Rattle.rpl_compile.proofs.Common.{kind_of_tree, knowing, list, literal, local_count, local_counts, mapped, name, names_in, no_acts, no_trees, now}
use Rattle.rpl_compile.proofs.Common.{on, one, over, room_lines, size, size_of_act, size_of_acts, sizes, sizes_of_arguments, slot, takes_named, tree}
use Rattle.rpl_compile.proofs.Common.{true, truth, truth_kind, two, with_name, ℕ, ◌++◌, ◌+◌, ◌∷◌, ◌≤◌}
use Rattle.rpl_code.specs.declared.instruction.Instruction.TheVariants as I
use Rattle.rpl_compile.proofs.SpeltNames.{table_found}
use Rattle.rw_model.proofs.Plain.{slot_is_plain}
use Rattle.rpl_compile.proofs.SpeltKinds.{AreSpelt, IsSpelt, element_spelt, takes_spelt, tree_spelt}
use Rattle.rpl_compile.proofs.SpeltLines.{AreBoundSpelt, AreCalleesSpelt, AreLines, behind, below_bound, call_spelt, callees_known, choice_spelt}
use Rattle.rpl_compile.proofs.SpeltLines.{convert_spelt, local_spelt, names_known, number_spelt, one_line_spelt, put_spelt, two_lines_spelt}
use Rattle.rpl_compile.proofs.SpeltLines.{widening_spelt}

-- the names that can be used and the operands that are there can be spelt
abbrev pub IsSiteSpelt : Site → Type 0
IsSiteSpelt site = AreBoundSpelt site.scope × AreSpelt site.below

module _ (basin : Draft) (valid : IsBasin basin) (callees : List Callee) (called : AreCalleesSpelt callees)
    (places locals : ℕ) (few_places : IsNumber places) (few_locals : IsNumber locals) where
  -- there are places for so many lines from here on, and so many locals are free
  abbrev pub HasPlaces : Site → ℕ → Type 0
  HasPlaces site lines = site.place + lines ≤ places

  abbrev pub HasLocals : Site → ℕ → Type 0
  HasLocals site own = site.free + own ≤ locals

  abbrev pub IsKindedAt : Site → Tree → Type 0
  IsKindedAt site expression = IsKinded basin (callee_heads callees) (names_in site.scope) expression

  abbrev pub lines_at : Site → Tree → ℕ
  lines_at site expression = size (callee_heads callees) (names_in site.scope) expression

  place_spelt : (n : ℕ) → n ≤ places → IsNumber n
  place_spelt n at_most = below_bound n places at_most few_places

  free_spelt : (n : ℕ) → n ≤ locals → IsNumber n
  free_spelt n at_most = below_bound n locals at_most few_locals

  of_tree : (site : Site) (expression : Tree) → IsSiteSpelt site → IsKindedAt site expression → IsSpelt (kind_of_tree callees site expression)
  of_tree site expression is_site_spelt is_kinded_at =
      tree_spelt basin (callee_heads callees) (callees_known callees called) (names_in site.scope) expression
      (names_known site.scope is_site_spelt.0) is_kinded_at

  abbrev pub SpellsTree : Tree → Type 0
  SpellsTree expression = (site : Site) → IsSiteSpelt site → IsKindedAt site expression
      → HasPlaces site (lines_at site expression) → HasLocals site (local_count expression) → AreLines (code_of callees site expression)

  on_list : (expressions : Trees) (site : Site) → IsKindedAt site (list expressions) → AreLines (all_code callees site expressions)
      → AreLines (code_of callees site (list expressions))
  on_list expressions site is_kinded_at are_lines = behind (all_code callees site expressions) _ are_lines ((is_kinded_at.0, is_kinded_at.1), tt)

  on_choice : (condition if_true if_false : Tree) → SpellsTree condition → SpellsTree if_true → SpellsTree if_false
      → SpellsTree (choice condition if_true if_false)
  on_choice condition if_true if_false spells_condition spells_true spells_false site is_site_spelt is_kinded_at has_places has_locals =
      let kind = kind_of_tree callees site (choice condition if_true if_false) in
      let first = on 1 (after_tree callees condition site) in
      let middle = after_room callees kind first if_true in
      let second = on 2 middle in
      let own : IsSpelt kind = of_tree site (choice condition if_true if_false) is_site_spelt is_kinded_at in
      choice_spelt middle (after_room callees kind second if_false) (kind ∷ site.below) (code_of callees site condition)
      (code_of callees first if_true ++ room_lines callees kind first if_true)
      (code_of callees second if_false ++ room_lines callees kind second if_false)
      (spells_condition site is_site_spelt is_kinded_at.0 (omega (arith, has_places)) (omega (arith, has_locals)))
      (behind (code_of callees first if_true) _
      (spells_true first is_site_spelt is_kinded_at.2 (omega (arith, has_places)) (omega (arith, has_locals)))
      (widening_spelt kind (kind_of_tree callees first if_true) is_kinded_at.3 own))
      (behind (code_of callees second if_false) _
      (spells_false second is_site_spelt is_kinded_at.4 (omega (arith, has_places)) (omega (arith, has_locals)))
      (widening_spelt kind (kind_of_tree callees second if_false) is_kinded_at.5 own))
      (place_spelt _ (omega (arith, has_places))) (place_spelt _ (omega (arith, has_places))) is_site_spelt.1 (own, is_site_spelt.1)

  on_bind : (new_name : List ℕ) (value_tree body : Tree) → SpellsTree value_tree → SpellsTree body → SpellsTree (bind new_name value_tree body)
  on_bind new_name value_tree body spells_value spells_body site is_site_spelt is_kinded_at has_places has_locals =
      let value = keeping 1 site in
      let own : IsSpelt (kind_of_tree callees site value_tree) = of_tree site value_tree is_site_spelt is_kinded_at.0 in
      let inside = knowing (bound new_name (kind_of_tree callees site value_tree) site.free) (on 1 (after_tree callees value_tree value)) in
      let local : IsNumber site.free = free_spelt site.free (omega (arith, has_locals)) in
      behind (code_of callees value value_tree) _
      (spells_value value is_site_spelt is_kinded_at.0 (omega (arith, has_places)) (omega (arith, has_locals))) (
        local,
        spells_body inside ((own, local, is_site_spelt.0), is_site_spelt.1) is_kinded_at.1 (omega (arith, has_places))
            (omega (arith, has_locals)),
      )

  on_each : (item_name : List ℕ) (source : Tree) (total_name : List ℕ) (initial body : Tree) → SpellsTree source → SpellsTree initial
      → SpellsTree body → SpellsTree (each item_name source total_name initial body)
  on_each item_name source total_name initial body spells_source spells_initial spells_body site is_site_spelt is_kinded_at has_places has_locals =
      let element = element_of (kind_of_tree callees site source) in
      let total = kind_of_tree callees site initial in
      let items = keeping 2 site in
      let first = over (kind_of_tree callees site source) (after_tree callees source items) in
      let turn = on 2 (after_tree callees initial (after_tree callees source items)) in
      let inside = knowing (bound total_name total (site.free + 1)) (knowing (bound item_name element site.free) turn) in
      let own : IsSpelt total = of_tree site initial is_site_spelt is_kinded_at.2 in
      let item : IsNumber site.free = free_spelt site.free (omega (arith, has_locals)) in
      let last : IsNumber (site.free + 1) = free_spelt (site.free + 1) (omega (arith, has_locals)) in
      behind (code_of callees items source) _
      (spells_source items is_site_spelt is_kinded_at.0 (omega (arith, has_places)) (omega (arith, has_locals)))
      (behind (code_of callees first initial) _
      (spells_initial first (is_site_spelt.0, (of_tree site source is_site_spelt is_kinded_at.0, is_site_spelt.1)) is_kinded_at.2
      (omega (arith, has_places)) (omega (arith, has_locals))) (
        last,
        (
          item,
          behind (code_of callees inside body) _
              (spells_body inside
              ((own, last, (element_spelt (kind_of_tree callees site source), item, is_site_spelt.0)), is_site_spelt.1) is_kinded_at.3
              (omega (arith, has_places)) (omega (arith, has_locals)))
              (behind (room_lines callees total inside body) _ (widening_spelt total (kind_of_tree callees inside body) is_kinded_at.4 own)
              (last, (tt, (last, tt)))),
        ),
      ))

  on_mapped : (item_name : List ℕ) (source body : Tree) → SpellsTree source → SpellsTree body → SpellsTree (mapped item_name source body)
  on_mapped item_name source body spells_source spells_body site is_site_spelt is_kinded_at has_places has_locals =
      let items = keeping 1 site in
      let inside = knowing (bound item_name (element_of (kind_of_tree callees site source)) site.free) (on 1 (after_tree callees source items)) in
      let item : IsNumber site.free = free_spelt site.free (omega (arith, has_locals)) in
      behind (code_of callees items source) _
      (spells_source items is_site_spelt is_kinded_at.0 (omega (arith, has_places)) (omega (arith, has_locals))) (
        item,
        behind (code_of callees inside body) _
            (spells_body inside ((element_spelt (kind_of_tree callees site source), item, is_site_spelt.0), is_site_spelt.1) is_kinded_at.2
            (omega (arith, has_places)) (omega (arith, has_locals))) (tt, tt),
      )

  -- one after the other
  on_two : (left right : Tree) → SpellsTree left → SpellsTree right → (site : Site) → IsSiteSpelt site → IsKindedAt site left
      → IsKindedAt site right
      → HasPlaces site (lines_at site left + lines_at site right) → HasLocals site (local_count left + local_count right)
      → AreLines (code_of callees site left) × AreLines (code_of callees (over (kind_of_tree callees site left) (after_tree callees left site)) right)
  on_two left right spells_left spells_right site is_site_spelt left_kinded right_kinded has_places has_locals = (
    spells_left site is_site_spelt left_kinded (omega (arith, has_places)) (omega (arith, has_locals)),
    spells_right (over (kind_of_tree callees site left) (after_tree callees left site))
        (is_site_spelt.0, (of_tree site left is_site_spelt left_kinded, is_site_spelt.1)) right_kinded (omega (arith, has_places))
        (omega (arith, has_locals)),
  )

  on_or : (left right : Tree) → SpellsTree left → SpellsTree right → SpellsTree (two Or left right)
  on_or left right spells_left spells_right site is_site_spelt is_kinded_at has_places has_locals =
      let middle = on 1 (on 1 (after_tree callees left site)) in
      let second = on 2 middle in
      choice_spelt middle (after_tree callees right second) (truth_kind ∷ site.below)
      (code_of callees site left) (I.Bool true ∷ []) (code_of callees second right)
      (spells_left site is_site_spelt is_kinded_at.0 (omega (arith, has_places)) (omega (arith, has_locals))) (tt, tt)
      (spells_right second is_site_spelt is_kinded_at.1 (omega (arith, has_places)) (omega (arith, has_locals)))
      (place_spelt _ (omega (arith, has_places))) (place_spelt _ (omega (arith, has_places))) is_site_spelt.1 (tt, is_site_spelt.1)

  on_and : (left right : Tree) → SpellsTree left → SpellsTree right → SpellsTree (two And left right)
  on_and left right spells_left spells_right site is_site_spelt is_kinded_at has_places has_locals =
      let first = on 1 (after_tree callees left site) in
      let middle = after_tree callees right first in
      choice_spelt middle (on 3 middle) (truth_kind ∷ site.below) (code_of callees site left) (code_of callees first right) (I.Bool false ∷ [])
      (spells_left site is_site_spelt is_kinded_at.0 (omega (arith, has_places)) (omega (arith, has_locals)))
      (spells_right first is_site_spelt is_kinded_at.1 (omega (arith, has_places)) (omega (arith, has_locals))) (tt, tt)
      (place_spelt _ (omega (arith, has_places))) (place_spelt _ (omega (arith, has_places))) is_site_spelt.1 (tt, is_site_spelt.1)

  mutual
    pub code_spelt : (expression : Tree) → SpellsTree expression
    code_spelt (literal number unit) = λ site is_site_spelt is_kinded_at has_places has_locals. (number_spelt number unit is_kinded_at, tt)
    code_spelt (truth is_so) = λ site is_site_spelt is_kinded_at has_places has_locals. (tt, tt)
    code_spelt now = λ site is_site_spelt is_kinded_at has_places has_locals. (tt, tt)
    code_spelt (slot object slot_name) = λ site known is_kinded_at has_places has_locals. (slot_is_plain basin valid object slot_name is_kinded_at, tt)
    code_spelt (name sought) = λ site is_site_spelt is_kinded_at has_places has_locals. (local_spelt site.scope sought is_site_spelt.0, tt)
    code_spelt (call function_name arguments) = λ site is_site_spelt is_kinded_at has_places has_locals.
        let takes = takes_named (callee_heads callees) function_name in
        behind (arguments_code callees site takes arguments) _
        (arguments_spelt site takes arguments is_site_spelt
        (takes_spelt (callee_heads callees) function_name (callees_known callees called)) is_kinded_at.1
        (omega (arith, has_places)) (omega (arith, has_locals)))
        (call_spelt callees function_name called is_kinded_at.0, tt)
    code_spelt (brackets inside) =
        λ site is_site_spelt is_kinded_at has_places has_locals. code_spelt inside site is_site_spelt is_kinded_at has_places has_locals
    code_spelt (list items) = λ site is_site_spelt is_kinded_at has_places has_locals.
        on_list items site is_kinded_at
        (all_spelt site (first_kind (callee_heads callees) (names_in site.scope) items) items is_site_spelt is_kinded_at.3
        (omega (arith, has_places)) (omega (arith, has_locals)))
    code_spelt (choice condition if_true if_false) =
        on_choice condition if_true if_false (code_spelt condition) (code_spelt if_true) (code_spelt if_false)
    code_spelt (bind new_name value_tree body) = on_bind new_name value_tree body (code_spelt value_tree) (code_spelt body)
    code_spelt (each item_name source total_name initial body) =
        on_each item_name source total_name initial body (code_spelt source) (code_spelt initial) (code_spelt body)
    code_spelt (mapped item_name source body) = on_mapped item_name source body (code_spelt source) (code_spelt body)
    code_spelt (one Known (at slot_tree date)) = λ site known is_kinded_at has_places has_locals.
        let both = on_two slot_tree date (code_spelt slot_tree) (code_spelt date) site known is_kinded_at.0.0 is_kinded_at.0.2
        (omega (arith, has_places)) (omega (arith, has_locals)) in
        behind (asked_code callees site (at slot_tree date)) _ (behind (code_of callees site slot_tree) _ both.0 both.1) (tt, tt)
    code_spelt (one Known operand) = λ site is_site_spelt is_kinded_at has_places has_locals. absurd is_kinded_at.1
    code_spelt (one word operand) = λ site is_site_spelt is_kinded_at has_places has_locals.
        behind (code_of callees site operand) _
        (code_spelt operand site is_site_spelt is_kinded_at.0 (omega (arith, has_places)) (omega (arith, has_locals))) (one_line_spelt word, tt)
    code_spelt (two Or left right) = on_or left right (code_spelt left) (code_spelt right)
    code_spelt (two And left right) = on_and left right (code_spelt left) (code_spelt right)
    code_spelt (two word left right) = λ site is_site_spelt is_kinded_at has_places has_locals.
        let both = on_two left right (code_spelt left) (code_spelt right) site is_site_spelt is_kinded_at.0 is_kinded_at.1 (omega (arith, has_places))
        (omega (arith, has_locals)) in
        behind (code_of callees site left) _ both.0 (behind (code_of callees _ right) _ both.1
        (two_lines_spelt word (kind_of_tree callees site left) (kind_of_tree callees site right)))
    code_spelt (convert word object operand) = λ site is_site_spelt is_kinded_at has_places has_locals.
        behind (code_of callees site operand) _
        (code_spelt operand site is_site_spelt is_kinded_at.1 (omega (arith, has_places)) (omega (arith, has_locals)))
        (convert_spelt word object (table_found basin valid object is_kinded_at.0), tt)
    code_spelt (at slot_tree date) = λ site known is_kinded_at has_places has_locals.
        let both = on_two slot_tree date (code_spelt slot_tree) (code_spelt date) site known is_kinded_at.0 is_kinded_at.2 (omega (arith, has_places))
        (omega (arith, has_locals)) in
        behind (code_of callees site slot_tree) _ both.0 (behind (code_of callees _ date) _ both.1 (tt, tt))

    all_spelt : (site : Site) (kind : Kind) (expressions : Trees) → IsSiteSpelt site
        → AreOfKind basin (callee_heads callees) (names_in site.scope) kind expressions
        → HasPlaces site (sizes (callee_heads callees) (names_in site.scope) expressions) → HasLocals site (local_counts expressions)
        → AreLines (all_code callees site expressions)
    all_spelt site kind no_trees is_site_spelt are_of_kind has_places has_locals = tt
    all_spelt site kind (tree first others) is_site_spelt are_of_kind has_places has_locals =
        behind (code_of callees site first) _
        (code_spelt first site is_site_spelt are_of_kind.0 (omega (arith, has_places)) (omega (arith, has_locals)))
        (all_spelt (over (kind_of_tree callees site first) (after_tree callees first site)) kind others
        (is_site_spelt.0, (of_tree site first is_site_spelt are_of_kind.0, is_site_spelt.1)) are_of_kind.2
        (omega (arith, has_places)) (omega (arith, has_locals)))

    arguments_spelt : (site : Site) (kinds : List Kind) (expressions : Trees) → IsSiteSpelt site → AreSpelt kinds
        → AreArguments basin (callee_heads callees) (names_in site.scope) kinds expressions
        → HasPlaces site (sizes_of_arguments (callee_heads callees) (names_in site.scope) kinds expressions)
        → HasLocals site (local_counts expressions)
        → AreLines (arguments_code callees site kinds expressions)
    arguments_spelt site [] no_trees is_site_spelt are_spelt are_arguments has_places has_locals = tt
    arguments_spelt site [] (tree first others) is_site_spelt are_spelt are_arguments has_places has_locals = absurd are_arguments
    arguments_spelt site (kind ∷ kinds) no_trees is_site_spelt are_spelt are_arguments has_places has_locals = absurd are_arguments
    arguments_spelt site (kind ∷ kinds) (tree first others) is_site_spelt are_spelt are_arguments has_places has_locals =
        behind (code_of callees site first) _
        (code_spelt first site is_site_spelt are_arguments.0 (omega (arith, has_places)) (omega (arith, has_locals)))
        (behind (room_lines callees kind site first) _ (widening_spelt kind (kind_of_tree callees site first) are_arguments.1 are_spelt.0)
        (arguments_spelt (over kind (after_room callees kind site first)) kinds others
        (is_site_spelt.0, (are_spelt.0, is_site_spelt.1)) are_spelt.1 are_arguments.2 (omega (arith, has_places)) (omega (arith, has_locals))))

  -- ---- statements

  abbrev pub SpellsActs : Acts → Type 0
  SpellsActs statements = (site : Site) → IsSiteSpelt site → AreKindedActs basin (callee_heads callees) (names_in site.scope) statements
      → HasPlaces site (size_of_acts (callee_heads callees) (names_in site.scope) statements) → HasLocals site (acts_locals statements)
      → AreLines (acts_code callees site statements)

  abbrev SpellsAct : Act → Type 0
  SpellsAct statement = (site : Site) → IsSiteSpelt site → IsKindedAct basin (callee_heads callees) (names_in site.scope) statement
      → HasPlaces site (size_of_act (callee_heads callees) (names_in site.scope) statement) → HasLocals site (act_locals statement)
      → AreLines (act_code callees site statement)

  on_branch : (condition : Tree) (first second : Acts) → SpellsActs first → SpellsActs second → SpellsAct (branch condition first second)
  on_branch condition first second spells_first spells_second site is_site_spelt is_kinded_act has_places has_locals =
      let ahead = on 1 (after_tree callees condition site) in
      let middle = after_acts callees first ahead in
      let last = on 2 middle in
      choice_spelt middle (after_acts callees second last) site.below
      (code_of callees site condition) (acts_code callees ahead first) (acts_code callees last second)
      (code_spelt condition site is_site_spelt is_kinded_act.0 (omega (arith, has_places)) (omega (arith, has_locals)))
      (spells_first ahead is_site_spelt is_kinded_act.2 (omega (arith, has_places)) (omega (arith, has_locals)))
      (spells_second last is_site_spelt is_kinded_act.3 (omega (arith, has_places)) (omega (arith, has_locals)))
      (place_spelt _ (omega (arith, has_places))) (place_spelt _ (omega (arith, has_places))) is_site_spelt.1 is_site_spelt.1

  on_with : (new_name : List ℕ) (value_tree : Tree) (body : Acts) → SpellsActs body → SpellsAct (with_name new_name value_tree body)
  on_with new_name value_tree body spells_body site is_site_spelt is_kinded_act has_places has_locals =
      let value = keeping 1 site in
      let own : IsSpelt (kind_of_tree callees site value_tree) = of_tree site value_tree is_site_spelt is_kinded_act.0 in
      let inside = knowing (bound new_name (kind_of_tree callees site value_tree) site.free) (on 1 (after_tree callees value_tree value)) in
      let local : IsNumber site.free = free_spelt site.free (omega (arith, has_locals)) in
      behind (code_of callees value value_tree) _
      (code_spelt value_tree value is_site_spelt is_kinded_act.0 (omega (arith, has_places)) (omega (arith, has_locals))) (
        local,
        spells_body inside ((own, local, is_site_spelt.0), is_site_spelt.1) is_kinded_act.1 (omega (arith, has_places))
            (omega (arith, has_locals)),
      )

  mutual
    act_spelt : (statement : Act) → SpellsAct statement
    act_spelt (assign object slot_name ahead value_tree) = λ site is_site_spelt is_kinded_act lines own.
        behind (code_of callees site value_tree) _
        (code_spelt value_tree site is_site_spelt is_kinded_act.0 (omega (arith, lines)) (omega (arith, own)))
        (put_spelt basin object slot_name ahead valid is_kinded_act.2, tt)
    act_spelt (branch condition first second) = on_branch condition first second (acts_spelt first) (acts_spelt second)
    act_spelt (with_name new_name value_tree body) = on_with new_name value_tree body (acts_spelt body)

    pub acts_spelt : (statements : Acts) → SpellsActs statements
    acts_spelt no_acts = λ site is_site_spelt are_kinded_acts has_places has_locals. tt
    acts_spelt (act first others) = λ site is_site_spelt are_kinded_acts has_places has_locals.
        behind (act_code callees site first) _
        (act_spelt first site is_site_spelt are_kinded_acts.0 (omega (arith, has_places)) (omega (arith, has_locals)))
        (acts_spelt others (after_act callees first site) is_site_spelt are_kinded_acts.1 (omega (arith, has_places)) (omega (arith, has_locals)))

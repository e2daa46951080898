-- The lines of expressions are those that TRANSLATE gives: loops, lists, calls, and by recursion all expressions (`claim`).
use Rattle.rpl_compile.proofs.Common.{AllByRecursion, AreArguments, AreOfKind, Callee, Draft, Instruction, IsBasin, Kind, List, N, Site, Tree, Trees}
use Rattle.rpl_compile.proofs.Common.{ValueKind, Written, [], after_room, after_tree, all_code, all_local_kinds, ap, append-nil, append_assoc}
use Rattle.rpl_compile.proofs.Common.{arguments_code, arith, at, bind, bound, brackets, call, call_line, callee_heads, callee_named, choice}
use Rattle.rpl_compile.proofs.Common.{code_kind, code_kinds, code_of, compiled, compiled_all, compiled_arguments, convert, convert_line, count_of}
use Rattle.rpl_compile.proofs.Common.{date_kind, each, element_of, first_ahead, first_kind, keeping, kind_named, kind_of_tree, knowing, length}
use Rattle.rpl_compile.proofs.Common.{length-map, list, list_kind, literal, local_count, local_kinds, local_named, mapped, name, names_in, no_trees}
use Rattle.rpl_compile.proofs.Common.{now, number_in_units, number_kind, number_line, on, one, one_kind, one_line, over, refl, room_lines, size, slot}
use Rattle.rpl_compile.proofs.Common.{slot_kind, spelt_name, subst, sym, take, tree, truth, truth_kind, two, ℕ, ◌++◌, ◌+◌, ◌-◌, ◌∙◌, ◌∷◌, ◌≡◌}
use Rattle.rpl_code.specs.declared.instruction.Instruction.TheVariants as I
use Rattle.rpl_tree.specs.declared.words.OneWord.TheVariants as One
use Rattle.rpl_tree.specs.declared.words.TwoWord.TheVariants as Two
use Rattle.rpl_compile.proofs.Forms.{Claim, codes_append, ended, gathered_twice, on_and, on_at, on_bind, on_choice, on_known, on_leaf, on_mapped}
use Rattle.rpl_compile.proofs.Forms.{on_one, on_or, on_two, two_more}
use Rattle.rpl_compile.proofs.KindsFound.{first_is}
use Rattle.rpl_compile.proofs.Plain.{IsSpelt, call_is, number_is, owner_spelt, result_is, short_is, slot_spelt, table_spelt, takes_is}
use Rattle.rpl_compile.proofs.AtSites.{At, as_long, kind_at, line_at, locals_as, longer, name_at, operand_at, room_at, taken, taken_at, twice_on}
use Rattle.rpl_compile.proofs.AtSites.{two_locals_at, unnamed_at}

-- ---- lists

behind_two : (kept : List ValueKind) (kind other_kind : Kind) (first second third : List Kind)
    → ((kept ++ code_kind kind ∷ []) ++ code_kind other_kind ∷ (code_kinds first ++ code_kinds second)) ++ code_kinds third
    ≡ kept ++ code_kinds (kind ∷ other_kind ∷ (first ++ (second ++ third)))
behind_two kept kind other_kind first second third =
    append_assoc (kept ++ code_kind kind ∷ []) (code_kind other_kind ∷ (code_kinds first ++ code_kinds second)) (code_kinds third)
    ∙ append_assoc kept (code_kind kind ∷ []) (code_kind other_kind ∷ ((code_kinds first ++ code_kinds second) ++ code_kinds third))
    ∙ ap (λ kinds. kept ++ code_kind kind ∷ code_kind other_kind ∷ kinds)
    (append_assoc (code_kinds first) (code_kinds second) (code_kinds third)
    ∙ ap (λ kinds. code_kinds first ++ kinds) (sym (codes_append second third)) ∙ sym (codes_append first (second
    ++ third)))

loop_lines : {A : Type 0} (before source initial body room : List A) (store begin next load : A)
    → (((((((((before ++ source) ++ initial) ++ store ∷ []) ++ begin ∷ []) ++ body) ++ room) ++ store ∷ []) ++ next ∷ []) ++ load ∷ [])
    ≡ before ++ (source ++ (initial ++ (store ∷ begin ∷ (body ++ (room ++ (store ∷ next ∷ load ∷ []))))))
loop_lines before source initial body room store begin next load =
    let end = store ∷ next ∷ load ∷ [] in
    let first = (before ++ source) ++ initial in
    let begun = (first ++ store ∷ []) ++ begin ∷ [] in
    let turn = (begun ++ body) ++ room in
    append_assoc (turn ++ store ∷ []) (next ∷ []) (load ∷ []) ∙ append_assoc turn (store ∷ []) (next ∷ load ∷ [])
    ∙ append_assoc (begun ++ body) room end ∙ append_assoc begun body (room ++ end)
    ∙ append_assoc (first ++ store ∷ []) (begin ∷ []) (body ++ (room ++ end)) ∙ append_assoc first (store ∷ []) (begin ∷ (body ++ (room ++ end)))
    ∙ append_assoc (before ++ source) initial (store ∷ begin ∷ (body ++ (room ++ end)))
    ∙ append_assoc before source (initial ++ (store ∷ begin ∷ (body ++ (room ++ end))))

three_parts : {A : Type 0} (before first second third : List A) → ((before ++ first) ++ second) ++ third ≡ before ++ (first ++ (second ++ third))
three_parts before first second third = append_assoc (before ++ first) second third ∙ append_assoc before first (second ++ third)

-- values one after the other, each of which waits; what was there before is below
pub record Row (result : Written) (so_far : Written) (site : Site) (kept : List ValueKind) (above : List Instruction)
    (waiting : List ValueKind) : Type 0 where
  pub scope : result.scope ≡ site.scope
  pub below : result.below ≡ so_far.below ++ waiting
  pub locals : result.locals ≡ kept
  pub lines : result.lines ≡ above

empty_row : {so_far : Written} {site : Site} {kept : List ValueKind} {above : List Instruction} → At so_far site kept above
    → Row so_far so_far site (kept ++ []) (above ++ []) []
empty_row {so_far} {site} {kept} {above} start = record {
  scope = start.scope;
  below = sym (append-nil so_far.below);
  locals = start.locals ∙ sym (append-nil kept);
  lines = start.lines ∙ sym (append-nil above);
}

module _ (basin : Draft) (callees : List Callee) where
  pub on_each : (item_name : List ℕ) (source : Tree) (total_name : List ℕ) (initial body : Tree) → Claim basin callees source
      → Claim basin callees initial → Claim basin callees body
      → Claim basin callees (each item_name source total_name initial body)
  on_each item_name source total_name initial body claim_of_source claim_of_initial claim_of_body so_far site kept above start is_kinded =
      let heads = callee_heads callees in
      let names = names_in site.scope in
      let all_kind = kind_of_tree callees site source in
      let item = element_of all_kind in
      let kind = kind_of_tree callees site initial in
      let items = keeping 2 site in
      let source_written = claim_of_source _ items _ _ (two_locals_at start) is_kinded.0 in
      let total =
      claim_of_initial _ (over all_kind (after_tree callees source items)) _ _
      (operand_at _ all_kind source_written.kind source_written.on) is_kinded.2 in
      let behind = after_tree callees initial (after_tree callees source items) in
      let source_locals = code_kinds (local_kinds heads names source) in
      let initial_locals = code_kinds (local_kinds heads names initial) in
      let number : length so_far.locals ≡ length kept = ap (λ (also_kept : List ValueKind). length also_kept) start.locals in
      let sum : length (so_far.locals ++ N ∷ []) ≡ length (kept ++ code_kind item ∷ []) =
      ap (λ (also_kept : List ValueKind). length (also_kept ++ N ∷ [])) start.locals ∙ as_long kept [] N (code_kind item) in
      let sum_free : length (so_far.locals ++ N ∷ []) ≡ site.free + 1 = sum ∙ longer kept (code_kind item ∷ []) start.free in
      let element = ap element_of source_written.kind in
      let first = kind_at kept (N ∷ (source_locals ++ initial_locals)) N _ item (length so_far.locals) number element
      (locals_as _ (gathered_twice kept source_locals initial_locals N N) (taken_at all_kind behind total.on)) in
      let second = kind_at (kept ++ code_kind item ∷ []) (source_locals ++ initial_locals) N _ kind _ sum total.kind
      (locals_as _ (sym (append_assoc kept (code_kind item ∷ []) (N ∷ (source_locals ++ initial_locals)))) first) in
      let stored = line_at (I.Store (length (so_far.locals ++ N ∷ []))) (I.Store (site.free + 1)) (ap I.Store sum_free) second in
      let begun = twice_on behind (line_at (I.Foreach (length so_far.locals)) (I.Foreach site.free) (ap I.Foreach (number ∙ start.free)) stored) in
      let named =
      name_at total_name _ kind _ (site.free + 1) total.kind sum_free
      (name_at item_name _ item _ site.free element (number ∙ start.free) begun) in
      let inside = knowing (bound total_name kind (site.free + 1)) (knowing (bound item_name item site.free) (on 2 behind)) in
      let body_written = claim_of_body _ inside _ _ named is_kinded.3 in
      let outside = on (size heads (names_in inside.scope) body) (keeping (local_count body) (on 2 behind)) in
      let unnamed = unnamed_at (bound item_name item site.free) outside
      (unnamed_at (bound total_name kind (site.free + 1)) (knowing (bound item_name item site.free) outside) body_written.on) in
      let room = room_at _ _ kind (kind_of_tree callees inside body) total.kind body_written.kind unnamed in
      let again = line_at (I.Store (length (so_far.locals ++ N ∷ []))) (I.Store (site.free + 1)) (ap I.Store sum_free) room in
      let last = line_at (I.Load (length (so_far.locals ++ N ∷ []))) (I.Load (site.free + 1)) (ap I.Load sum_free)
      (line_at I.Next I.Next refl again) in
      ended basin callees (each item_name source total_name initial body)
      (compiled callees so_far (each item_name source total_name initial body)) start is_kinded total.kind last.scope last.below
      (last.locals
      ∙ behind_two kept item kind (local_kinds heads names source) (local_kinds heads names initial)
      (local_kinds heads (names_in inside.scope) body))
      (last.lines
      ∙ loop_lines above _ _ (code_of callees inside body) (room_lines callees kind inside body) (I.Store (site.free + 1))
      (I.Foreach site.free) I.Next
      (I.Load (site.free + 1)))

  -- ---- values in a row

  abbrev ClaimAll : Trees → Type 0
  ClaimAll expressions =
      (so_far : Written) (site : Site) (kept : List ValueKind) (above : List Instruction) → At so_far site kept above → (kind : Kind)
      → AreOfKind basin (callee_heads callees) (names_in site.scope) kind expressions → (waiting : List ValueKind)
      × (length waiting ≡ count_of expressions)
      × Row (compiled_all callees so_far expressions) so_far site
      (kept ++ code_kinds (all_local_kinds (callee_heads callees) (names_in site.scope) expressions)) (above
      ++ all_code callees site expressions) waiting

  on_none : ClaimAll no_trees
  on_none so_far site kept above start kind are_of_kind = ([], refl, empty_row start)

  on_tree : (expression : Tree) (expressions : Trees) → Claim basin callees expression → ClaimAll expressions → ClaimAll (tree expression expressions)
  on_tree expression expressions claim_of_expression claim_of_expressions so_far site kept above start kind are_of_kind =
      let heads = callee_heads callees in
      let names = names_in site.scope in
      let own = kind_of_tree callees site expression in
      let first = claim_of_expression so_far site kept above start are_of_kind.0 in
      let waits = operand_at (compiled callees so_far expression).kind own first.kind first.on in
      let rest = claim_of_expressions _ (over own (after_tree callees expression site)) _ _ waits kind are_of_kind.2 in
      let long : length (code_kind own ∷ rest.0) ≡ count_of expressions + 1 = let e = rest.1 in omega (arith, e) in
      let row = rest.2 in (
        code_kind own ∷ rest.0,
        long,
        record {
          scope = row.scope;
          below = row.below ∙ (λ i. ((first.on.below ∙ sym start.below) i ++ code_kind (first.kind i) ∷ []) ++ rest.0)
              ∙ append_assoc so_far.below (code_kind own ∷ []) rest.0;
          locals = row.locals ∙ two_more kept (local_kinds heads names expression) (all_local_kinds heads names expressions);
          lines = row.lines ∙ append_assoc above (code_of callees site expression) _;
        },
      )

  on_list : (expressions : Trees) → ClaimAll expressions → Claim basin callees (list expressions)
  on_list expressions claim_of_expressions so_far site kept above start is_kinded =
      let heads = callee_heads callees in
      let names = names_in site.scope in
      let found = claim_of_expressions so_far site kept above start (first_kind heads names expressions) is_kinded.3 in
      let row = found.2 in
      let short_count = short_is (count_of expressions) is_kinded.1 in
      let first = ap (λ scope. first_ahead callees (names_in scope) expressions) start.scope ∙ first_is basin callees names
      (first_kind heads names expressions) expressions is_kinded.3 in
      ended basin callees (list expressions) (compiled callees so_far (list expressions)) start is_kinded
      (λ i. list_kind (short_count i) (first i)) row.scope
      (ap (λ (below : List ValueKind). take (length below - count_of expressions) below) row.below
      ∙ taken so_far.below found.0 (count_of expressions) found.1 ∙ start.below)
      row.locals ((λ i. row.lines i ++ I.List (short_count i) ∷ []) ∙ append_assoc above _ (I.List (count_of expressions) ∷ []))

  -- ---- arguments

  abbrev ClaimArguments : Trees → Type 0
  ClaimArguments expressions =
      (so_far : Written) (site : Site) (kept : List ValueKind) (above : List Instruction) → At so_far site kept above → (kinds : List Kind)
      → AreArguments basin (callee_heads callees) (names_in site.scope) kinds expressions
      → Row (compiled_arguments callees so_far kinds expressions) so_far site
      (kept ++ code_kinds (all_local_kinds (callee_heads callees) (names_in site.scope) expressions))
      (above ++ arguments_code callees site kinds expressions) (code_kinds kinds)

  no_arguments : ClaimArguments no_trees
  no_arguments so_far site kept above start [] are_arguments = empty_row start
  no_arguments so_far site kept above start (kind ∷ kinds) are_arguments = absurd are_arguments

  on_argument : (expression : Tree) (expressions : Trees) → Claim basin callees expression → ClaimArguments expressions
      → ClaimArguments (tree expression expressions)
  on_argument expression expressions claim_of_expression claim_of_expressions so_far site kept above start [] are_arguments = absurd are_arguments
  on_argument expression expressions claim_of_expression claim_of_expressions so_far site kept above start (kind ∷ kinds) are_arguments =
      let heads = callee_heads callees in
      let names = names_in site.scope in
      let first = claim_of_expression so_far site kept above start are_arguments.0 in
      let room = room_at kind (compiled callees so_far expression).kind kind (kind_of_tree callees site expression) refl first.kind first.on in
      let row = claim_of_expressions _ (over kind (after_room callees kind site expression)) _ _
      (operand_at kind kind refl room) kinds are_arguments.2 in
      record {
        scope = row.scope;
        below = row.below ∙ (λ i. ((room.below ∙ sym start.below) i ++ code_kind kind ∷ []) ++ code_kinds kinds)
            ∙ append_assoc so_far.below (code_kind kind ∷ []) (code_kinds kinds);
        locals = row.locals ∙ two_more kept (local_kinds heads names expression) (all_local_kinds heads names expressions);
        lines = row.lines ∙ three_parts above (code_of callees site expression) (room_lines callees kind site expression) _;
      }

  -- ---- all expressions, where predefined names are text and the basin is valid

  module _ (spelled : AllByRecursion IsSpelt callees) (valid : IsBasin basin) where
    on_call : (function_name : List ℕ) (expressions : Trees) → ClaimArguments expressions → Claim basin callees (call function_name expressions)
    on_call function_name expressions claim_of_expressions so_far site kept above start is_kinded =
        let heads = callee_heads callees in
        let takes = (callee_named callees function_name).head.takes in
        let same = takes_is callees function_name in
        let row = claim_of_expressions so_far site kept above start takes
        (subst (λ kinds. AreArguments basin heads (names_in site.scope) kinds expressions) (sym same) is_kinded.1) in
        ended basin callees (call function_name expressions) (compiled callees so_far (call function_name expressions)) start is_kinded
        (result_is callees function_name) row.scope
        (ap (λ (below : List ValueKind). take (length below - length takes) below) row.below ∙ taken so_far.below (code_kinds takes) (length takes)
        (length-map takes code_kind)
        ∙ start.below)
        row.locals
        ((λ i. row.lines i ++ call_is callees function_name spelled is_kinded.0 i ∷ [])
        ∙ append_assoc above (arguments_code callees site takes expressions) (call_line callees function_name ∷ [])
        ∙ ap (λ kinds. above ++ (arguments_code callees site kinds expressions ++ call_line callees function_name ∷ [])) same)

    mutual
      pub claim : (expression : Tree) → Claim basin callees expression
      claim (literal number unit) = λ so_far site kept above start is_kinded.
          on_leaf basin callees (literal number unit) number_kind (I.Num (number_in_units number unit))
          (number_line number unit) so_far site kept above start is_kinded refl (ap I.Num
          (number_is number unit is_kinded)) refl refl
      claim (truth is_so) =
          λ so_far site kept above start is_kinded.
          on_leaf basin callees (truth is_so) truth_kind (I.Bool is_so) (I.Bool is_so) so_far site kept above start is_kinded refl refl refl refl
      claim now =
          λ so_far site kept above start is_kinded.
          on_leaf basin callees now date_kind I.Now I.Now so_far site kept above start is_kinded refl refl refl refl
      claim (slot object slot_name) = λ so_far site kept above start is_kinded.
          on_leaf basin callees (slot object slot_name) slot_kind (I.Slot (spelt_name object) (spelt_name slot_name))
          (I.Slot object slot_name) so_far site kept above start is_kinded refl
          (λ i. I.Slot (owner_spelt basin valid object slot_name is_kinded i) (slot_spelt basin valid object slot_name is_kinded i)) refl refl
      claim (name sought) = λ so_far site kept above start is_kinded.
          on_leaf basin callees (name sought) (kind_named (names_in so_far.scope) sought) (I.Load (local_named so_far.scope sought)) (I.Load
          (local_named site.scope sought)) so_far site kept above start is_kinded
          (ap (λ scope. kind_named (names_in scope) sought) start.scope) (ap (λ scope. I.Load (local_named scope sought)) start.scope) refl refl
      claim (call function_name arguments) = on_call function_name arguments (claim_arguments arguments)
      claim (brackets inside) = λ so_far site kept above start is_kinded. let own = claim inside so_far site kept above start is_kinded in
          record { kind = own.kind; on = own.on }
      claim (list items) = on_list items (claim_all items)
      claim (choice condition if_true if_false) =
          on_choice basin callees condition if_true if_false (claim condition) (claim if_true) (claim if_false)
      claim (bind new_name value_tree body) = on_bind basin callees new_name value_tree body (claim value_tree) (claim body)
      claim (each item_name source total_name initial body) =
          on_each item_name source total_name initial body (claim source) (claim initial) (claim body)
      claim (mapped item_name source body) = on_mapped basin callees item_name source body (claim source) (claim body)
      claim (one One.Known (at slot_tree date)) = on_known basin callees slot_tree date (claim slot_tree) (claim date)
      claim (one One.Known operand) = λ so_far site kept above start is_kinded. absurd is_kinded.1
      claim (one word operand) = λ so_far site kept above start is_kinded.
          on_one basin callees (one word operand) operand (one_kind word) (one_line word) (one_line word)
          (claim operand) so_far site kept above start is_kinded is_kinded.0 refl refl refl refl
      claim (two Two.Or left right) = on_or basin callees left right (claim left) (claim right)
      claim (two Two.And left right) = on_and basin callees left right (claim left) (claim right)
      claim (two word left right) =
          λ so_far site kept above start is_kinded.
          on_two basin callees word left right (claim left) (claim right) so_far site kept above start is_kinded refl
      claim (convert word object operand) = λ so_far site kept above start is_kinded.
          on_one basin callees (convert word object operand) operand number_kind (convert_line word (spelt_name object)) (convert_line word object)
          (claim operand) so_far site kept above start is_kinded is_kinded.1 refl
          (ap (convert_line word) (table_spelt basin valid object is_kinded.0)) refl refl
      claim (at slot_tree date) = on_at basin callees slot_tree date (claim slot_tree) (claim date)

      pub claim_all : (expressions : Trees) → ClaimAll expressions
      claim_all no_trees = on_none
      claim_all (tree first others) = on_tree first others (claim first) (claim_all others)

      pub claim_arguments : (expressions : Trees) → ClaimArguments expressions
      claim_arguments no_trees = no_arguments
      claim_arguments (tree first others) = on_argument first others (claim first) (claim_arguments others)

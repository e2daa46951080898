-- The lines of expressions, written one after the other, are those that TRANSLATE gives: what each form writes, over its parts (`Claim`).
-- Loops, lists and calls are in `Claims`, which puts all forms together.
use Rattle.rpl_compile.proofs.Common.{Callee, Draft, Instruction, IsKinded, Kind, List, N, Site, Tree, TwoWord, ValueKind, Written, WrittenStep, []}
use Rattle.rpl_compile.proofs.Common.{after_room, after_tree, ap, append-nil, append_assoc, arith, at, bind, bound, callee_heads, choice, code_kind}
use Rattle.rpl_compile.proofs.Common.{code_kinds, code_of, compiled, element_of, false, join, keeping, kind_ahead, kind_of_tree, kind_of_two, knowing}
use Rattle.rpl_compile.proofs.Common.{length, length-map, local_kinds, mapped, names_in, numbers_kind, on, one, outer, over, refl, reverse, room_of}
use Rattle.rpl_compile.proofs.Common.{sym, target, test_line, true, truth_kind, two, two_lines, with_line, with_local, with_operand, without_operands}
use Rattle.rpl_compile.proofs.Common.{written, written_step, written_with_two, ℕ, ◌++◌, ◌+◌, ◌∙◌, ◌∷◌, ◌≡◌}
use Rattle.rpl_code.specs.declared.instruction.Instruction.TheVariants as I
use Rattle.rpl_tree.specs.declared.words.OneWord.TheVariants as One
use Rattle.rpl_tree.specs.declared.words.TwoWord.TheVariants as Two
use Rattle.rpl_compile.proofs.KindsFound.{ahead_is, kind_of_two_is}
use Rattle.rpl_compile.proofs.Sizes.{code-size}
use Rattle.rpl_compile.proofs.AtSites.{At, kind_at, line_at, lines_as, local_at, locals_as, longer, as_long, name_at, operand_at, room_at, second_at}
use Rattle.rpl_compile.proofs.AtSites.{taken_at, value_end_at}
use Rattle.rpl_compile.proofs.LocalSizes.{locals_size}

-- ---- lists

pub codes_append : (first second : List Kind) → code_kinds (first ++ second) ≡ code_kinds first ++ code_kinds second
codes_append [] second = refl
codes_append (kind ∷ first) second = ap (λ kinds. code_kind kind ∷ kinds) (codes_append first second)

pub two_more : (kept : List ValueKind) (first second : List Kind)
    → (kept ++ code_kinds first) ++ code_kinds second ≡ kept ++ code_kinds (first ++ second)
two_more kept first second = append_assoc kept (code_kinds first) (code_kinds second) ∙ ap (λ kinds. kept ++ kinds) (sym (codes_append first second))

pub three_more : (kept : List ValueKind) (first second third : List Kind)
    → ((kept ++ code_kinds first) ++ code_kinds second) ++ code_kinds third ≡ kept ++ code_kinds (first ++ (second ++ third))
three_more kept first second third =
    append_assoc (kept ++ code_kinds first) (code_kinds second) (code_kinds third)
    ∙ ap (λ kinds. (kept ++ code_kinds first) ++ kinds) (sym (codes_append second third)) ∙ two_more kept first
    (second ++ third)

-- behind a local whose kind is known by now
pub behind_one : (kept : List ValueKind) (kind : Kind) (first second : List Kind)
    → (kept ++ code_kind kind ∷ code_kinds first) ++ code_kinds second ≡ kept ++ code_kinds (kind ∷ (first ++ second))
behind_one kept kind first second =
    append_assoc kept (code_kind kind ∷ code_kinds first) (code_kinds second)
    ∙ ap (λ kinds. kept ++ code_kind kind ∷ kinds) (sym (codes_append first second))

pub branch_lines : {A : Type 0} (before condition first second : List A) (branch_line jump target_line end : A)
    → (((before ++ condition) ++ branch_line ∷ first) ++ jump ∷ target_line ∷ second) ++ end ∷ []
    ≡ before ++ (condition ++ (branch_line ∷ (first ++ (jump ∷ target_line ∷ (second ++ end ∷ [])))))
branch_lines before condition first second branch_line jump target_line end =
    append_assoc ((before ++ condition) ++ branch_line ∷ first) (jump ∷ target_line ∷ second) (end ∷ [])
    ∙ append_assoc (before ++ condition) (branch_line ∷ first) (jump ∷ target_line ∷ (second ++ end ∷ []))
    ∙ append_assoc before condition (branch_line ∷ (first ++ (jump ∷ target_line ∷ (second ++ end ∷ []))))

-- two parts behind a line
pub gathered : {A : Type 0} (before first second : List A) (line : A)
    → ((before ++ line ∷ []) ++ first) ++ second ≡ before ++ line ∷ (first ++ second)
gathered before first second line = append_assoc (before ++ line ∷ []) first second ∙ append_assoc before (line ∷ []) (first ++ second)

-- and two behind two lines
pub gathered_twice : {A : Type 0} (before first second : List A) (line other_line : A)
    → ((before ++ line ∷ other_line ∷ []) ++ first) ++ second ≡ before ++ line ∷ (other_line ∷ (first ++ second))
gathered_twice before first second line other_line = append_assoc (before ++ line ∷ other_line ∷ []) first second
    ∙ append_assoc before (line ∷ other_line ∷ []) (first ++ second)

pub value_lines : {A : Type 0} (before first second : List A) (line : A)
    → ((before ++ first) ++ line ∷ []) ++ second ≡ before ++ (first ++ (line ∷ second))
value_lines before first second line = append_assoc (before ++ first) (line ∷ []) second ∙ append_assoc before first (line ∷ second)

pub turn_lines : {A : Type 0} (before first second : List A) (line last : A)
    → (((before ++ first) ++ line ∷ []) ++ second) ++ last ∷ [] ≡ before ++ (first ++ (line ∷ (second ++ last ∷ [])))
turn_lines before first second line last = append_assoc ((before ++ first) ++ line ∷ []) second (last ∷ [])
    ∙ value_lines before first (second ++ last ∷ []) line

-- three steps on
thrice_on : {so_far : Written} {kept : List ValueKind} {above : List Instruction} (site : Site) → At so_far (on 1 (on 2 site)) kept above
    → At so_far (on 3 site) kept above
thrice_on site stands = record {
  scope = stands.scope;
  below = stands.below;
  locals = stands.locals;
  lines = stands.lines;
  free = stands.free;
  place = let e = stands.place in omega (arith, e);
}

-- a word between two expressions
two_written : (word : TwoWord) (kind other_kind : Kind) (so_far : Written)
    → written_with_two word kind other_kind so_far ≡ written so_far.scope so_far.locals so_far.below (so_far.lines ++ two_lines word kind other_kind)
two_written Two.Or kind other_kind so_far = λ i. written so_far.scope so_far.locals so_far.below (sym (append-nil so_far.lines) i)
two_written Two.And kind other_kind so_far = λ i. written so_far.scope so_far.locals so_far.below (sym (append-nil so_far.lines) i)
two_written Two.Unequal kind other_kind so_far =
    λ i. written so_far.scope so_far.locals so_far.below (append_assoc so_far.lines (test_line kind I.Eq I.Deq ∷ []) (I.Not ∷ []) i)
two_written Two.Greater kind other_kind so_far =
    λ i. written so_far.scope so_far.locals so_far.below (append_assoc so_far.lines (test_line kind I.Le I.Dle ∷ []) (I.Not ∷ []) i)
two_written Two.GreaterEqual kind other_kind so_far =
    λ i. written so_far.scope so_far.locals so_far.below (append_assoc so_far.lines (test_line kind I.Lt I.Dlt ∷ []) (I.Not ∷ []) i)
two_written word kind other_kind so_far = refl

module _ (basin : Draft) (callees : List Callee) where
  -- an expression's kind, and what is written behind these locals and lines
  pub record Left (expression : Tree) (step : WrittenStep) (site : Site) (kept : List ValueKind) (above : List Instruction) : Type 0 where
    pub kind : step.kind ≡ kind_of_tree callees site expression
    pub on : At step.on (after_tree callees expression site)
        (kept ++ code_kinds (local_kinds (callee_heads callees) (names_in site.scope) expression)) (above ++ code_of callees site expression)

  abbrev pub Claim : Tree → Type 0
  Claim expression =
      (so_far : Written) (site : Site) (kept : List ValueKind) (above : List Instruction) → At so_far site kept above
      → IsKinded basin (callee_heads callees)
      (names_in site.scope) expression
      → Left expression (compiled callees so_far expression) site kept above

  -- two values one after the other, of which the second waits on top of the first, and both are taken
  pub record Both (left_tree right_tree : Tree) (so_far : Written) (site : Site) (kept : List ValueKind) (above : List Instruction) : Type 0 where
    pub left : (compiled callees so_far left_tree).kind ≡ kind_of_tree callees site left_tree
    pub right : (compiled callees (with_operand (compiled callees so_far left_tree).kind (compiled callees so_far left_tree).on) right_tree).kind
        ≡ kind_of_tree callees site right_tree
    pub on : At
        (without_operands 1
        (compiled callees (with_operand (compiled callees so_far left_tree).kind (compiled callees so_far left_tree).on) right_tree).on)
        (after_tree callees right_tree (after_tree callees left_tree site))
        (kept ++ code_kinds
        (local_kinds (callee_heads callees) (names_in site.scope) left_tree
        ++ local_kinds (callee_heads callees) (names_in site.scope) right_tree))
        (above ++ (code_of callees site left_tree
        ++ code_of callees (over (kind_of_tree callees site left_tree) (after_tree callees left_tree site)) right_tree))

  abbrev operated : TwoWord → Tree → Tree → Written → WrittenStep
  operated word left right so_far =
      let left_written = compiled callees so_far left in
      let right_written = compiled callees (with_operand left_written.kind left_written.on) right in
      written_step (kind_of_two word left_written.kind right_written.kind)
      (written_with_two word left_written.kind right_written.kind (without_operands 1 right_written.on))

  abbrev plain_two : TwoWord → Tree → Tree → Site → List Instruction
  plain_two word left right site =
      code_of callees site left ++ (code_of callees (over (kind_of_tree callees site left) (after_tree callees left site)) right
      ++ two_lines word (kind_of_tree callees site left) (kind_of_tree callees site right))

  -- places and numbers follow
  pub ended : {so_far : Written} {site : Site} {kept : List ValueKind} {above : List Instruction} (expression : Tree) (step : WrittenStep)
      → At so_far site kept above
      → IsKinded basin (callee_heads callees) (names_in site.scope) expression → step.kind ≡ kind_of_tree callees site expression
      → step.on.scope ≡ site.scope
      → step.on.below ≡ reverse (code_kinds site.below)
      → step.on.locals ≡ kept ++ code_kinds (local_kinds (callee_heads callees) (names_in site.scope) expression)
      → step.on.lines ≡ above ++ code_of callees site expression → Left expression step site kept above
  ended {so_far} {site} {kept} {above} expression step start is_kinded kind scope below locals lines =
      let kinds = local_kinds (callee_heads callees) (names_in site.scope) expression in
      record {
        kind = kind;
        on = record {
          scope = scope;
          below = below;
          locals = locals;
          lines = lines;
          free = longer kept (code_kinds kinds) start.free
              ∙ ap (λ n. site.free + n) (length-map kinds code_kind ∙ locals_size (callee_heads callees) expression (names_in site.scope));
          place = longer above (code_of callees site expression) start.place
              ∙ ap (λ n. site.place + n) (code-size basin callees site expression is_kinded);
        };
      }

  -- one line, and no local
  pub on_leaf : (expression : Tree) (kind : Kind) (line other_line : Instruction) (so_far : Written) (site : Site) (kept : List ValueKind)
      (above : List Instruction) → At so_far site kept above
      → IsKinded basin (callee_heads callees) (names_in site.scope) expression → kind ≡ kind_of_tree callees site expression → line ≡ other_line
      → code_of callees site expression ≡ other_line ∷ [] → local_kinds (callee_heads callees) (names_in site.scope) expression ≡ []
      → Left expression (written_step kind (with_line line so_far)) site kept above
  on_leaf expression kind line other_line so_far site kept above start is_kinded known same code none =
      ended expression (written_step kind (with_line line so_far)) start is_kinded known start.scope start.below
      (start.locals ∙ sym (append-nil kept) ∙ ap (λ kinds. kept ++ code_kinds kinds) (sym none))
      ((λ x. start.lines x ++ same x ∷ []) ∙ ap (λ js. above ++ js) (sym code))

  pub on_choice : (condition if_true if_false : Tree) → Claim condition → Claim if_true → Claim if_false → Claim (choice condition if_true if_false)
  on_choice condition if_true if_false claim_of_condition claim_of_if_true claim_of_if_false so_far site kept above start is_kinded =
      let heads = callee_heads callees in
      let kind = kind_of_tree callees site (choice condition if_true if_false) in
      let test = claim_of_condition so_far site kept above start is_kinded.0 in
      let first = on 1 (after_tree callees condition site) in
      let yes = claim_of_if_true _ first _ _ (line_at (I.Branch 0) (I.Branch 0) refl test.on) is_kinded.2 in
      let ahead = ap (λ scope. kind_ahead callees (names_in scope) if_false) yes.on.scope
      ∙ ahead_is basin callees (names_in site.scope) if_false is_kinded.4 in
      let joined : (compiled callees so_far (choice condition if_true if_false)).kind ≡ kind = λ x. join (yes.kind x) (ahead x) in
      let middle = after_room callees kind first if_true in
      let lines = above ++ code_of callees site condition in
      let room = lines_as _ (gathered lines _ _ (I.Branch 0)) (room_at _ _ kind (kind_of_tree callees first if_true) joined yes.kind yes.on) in
      let tested = ap (λ (js : List Instruction). length js) test.on.lines in
      let second = second_at lines _ _ tested room in
      let no = claim_of_if_false _ (on 2 middle) _ _ second is_kinded.4 in
      let last = lines_as _ (gathered_twice _ _ _ (I.Jump 0) (target middle.below))
      (room_at _ _ kind (kind_of_tree callees (on 2 middle) if_false) joined no.kind no.on) in
      let behind = ap (λ (js : List Instruction). length js) room.lines ∙ as_long lines _ (I.Branch 0) (I.Branch (middle.place + 1)) in
      let all = value_end_at _ _ _ kind _ behind joined last in
      ended (choice condition if_true if_false)
      (compiled callees so_far (choice condition if_true if_false)) start is_kinded joined all.scope all.below
      (all.locals
      ∙ three_more kept (local_kinds heads (names_in site.scope) condition) (local_kinds heads (names_in site.scope) if_true) (local_kinds heads
      (names_in site.scope) if_false))
      (all.lines ∙ branch_lines above (code_of callees site condition) _ _ _ _ _ _)

  -- ---- names

  pub on_bind : (new_name : List ℕ) (value_tree body : Tree) → Claim value_tree → Claim body → Claim (bind new_name value_tree body)
  on_bind new_name value_tree body claim_of_value_tree claim_of_body so_far site kept above start is_kinded =
      let heads = callee_heads callees in
      let names = names_in site.scope in
      let kind = kind_of_tree callees site value_tree in
      let number : length so_far.locals ≡ length kept = ap (λ (also_kept : List ValueKind). length also_kept) start.locals in
      let value_written = claim_of_value_tree _ (keeping 1 site) _ _ (local_at start) is_kinded.0 in
      let known = kind_at kept (code_kinds (local_kinds heads names value_tree)) N (compiled callees (with_local so_far) value_tree).kind kind
      (length so_far.locals) number value_written.kind
      (locals_as _ (append_assoc kept (N ∷ []) (code_kinds (local_kinds heads names value_tree))) value_written.on) in
      let stored = line_at (I.Store (length so_far.locals)) (I.Store site.free) (ap I.Store (number ∙ start.free)) known in
      let named =
      name_at new_name (compiled callees (with_local so_far) value_tree).kind kind (length so_far.locals) site.free value_written.kind
      (number ∙ start.free) stored in
      let inside = knowing (bound new_name kind site.free) (on 1 (after_tree callees value_tree (keeping 1 site))) in
      let body_written = claim_of_body _ inside _ _ named is_kinded.1 in
      ended (bind new_name value_tree body) (compiled callees so_far (bind new_name value_tree body)) start is_kinded body_written.kind
      (ap outer body_written.on.scope) body_written.on.below
      (body_written.on.locals ∙ behind_one kept kind (local_kinds heads names value_tree) (local_kinds heads ((new_name, kind) ∷ names) body))
      (body_written.on.lines ∙ value_lines above (code_of callees (keeping 1 site) value_tree) (code_of callees inside body) (I.Store site.free))

  pub on_mapped : (item_name : List ℕ) (source body : Tree) → Claim source → Claim body → Claim (mapped item_name source body)
  on_mapped item_name source body claim_of_source claim_of_body so_far site kept above start is_kinded =
      let heads = callee_heads callees in
      let names = names_in site.scope in
      let item = element_of (kind_of_tree callees site source) in
      let number : length so_far.locals ≡ length kept = ap (λ (also_kept : List ValueKind). length also_kept) start.locals in
      let source_written = claim_of_source _ (keeping 1 site) _ _ (local_at start) is_kinded.0 in
      let element : element_of (compiled callees (with_local so_far) source).kind ≡ item = ap element_of source_written.kind in
      let known = kind_at kept (code_kinds (local_kinds heads names source)) N _ item (length so_far.locals) number element
      (locals_as _ (append_assoc kept (N ∷ []) (code_kinds (local_kinds heads names source))) source_written.on) in
      let begun = line_at (I.Map (length so_far.locals)) (I.Map site.free) (ap I.Map (number ∙ start.free)) known in
      let named = name_at item_name _ item (length so_far.locals) site.free element (number ∙ start.free) begun in
      let inside = knowing (bound item_name item site.free) (on 1 (after_tree callees source (keeping 1 site))) in
      let body_written = claim_of_body _ inside _ _ named is_kinded.2 in
      ended (mapped item_name source body) (compiled callees so_far (mapped item_name source body)) start is_kinded
      (ap (λ (kind : Kind). numbers_kind (room_of kind)) source_written.kind)
      (ap outer body_written.on.scope) body_written.on.below
      (body_written.on.locals ∙ behind_one kept item (local_kinds heads names source) (local_kinds heads ((item_name, item) ∷ names) body))
      ((λ i. body_written.on.lines i ++ I.Yield ∷ [])
      ∙ turn_lines above (code_of callees (keeping 1 site) source) (code_of callees inside body) (I.Map site.free) I.Yield)

  -- ---- operators

  pub on_or : (left right : Tree) → Claim left → Claim right → Claim (two Two.Or left right)
  on_or left right claim_of_left claim_of_right so_far site kept above start is_kinded =
      let heads = callee_heads callees in
      let names = names_in site.scope in
      let test = claim_of_left so_far site kept above start is_kinded.0 in
      let lines = above ++ code_of callees site left in
      let first = on 1 (after_tree callees left site) in
      let middle = on 1 first in
      let room = lines_as _ (append_assoc lines (I.Branch 0 ∷ []) (I.Bool true ∷ []))
      (line_at (I.Bool true) (I.Bool true) refl (line_at (I.Branch 0) (I.Branch 0) refl test.on)) in
      let tested = ap (λ (js : List Instruction). length js) test.on.lines in
      let second = second_at lines _ _ tested room in
      let no = claim_of_right _ (on 2 middle) _ _ second is_kinded.1 in
      let last = lines_as _ (append_assoc (lines ++ I.Branch (middle.place + 1) ∷ I.Bool true ∷ []) (I.Jump 0 ∷ target middle.below ∷ []) _) no.on in
      let behind = ap (λ (js : List Instruction). length js) room.lines ∙ as_long lines _ (I.Branch 0) (I.Branch (middle.place + 1)) in
      let all = value_end_at _ _ truth_kind truth_kind _ behind refl last in
      ended (two Two.Or left right) (compiled callees so_far (two Two.Or left right)) start is_kinded refl all.scope all.below
      (all.locals ∙ two_more kept (local_kinds heads names left) (local_kinds heads names right))
      (all.lines ∙ branch_lines above (code_of callees site left) (I.Bool true ∷ []) _ _ _ _ _)

  pub on_and : (left right : Tree) → Claim left → Claim right → Claim (two Two.And left right)
  on_and left right claim_of_left claim_of_right so_far site kept above start is_kinded =
      let heads = callee_heads callees in
      let names = names_in site.scope in
      let test = claim_of_left so_far site kept above start is_kinded.0 in
      let lines = above ++ code_of callees site left in
      let first = on 1 (after_tree callees left site) in
      let yes = claim_of_right _ first _ _ (line_at (I.Branch 0) (I.Branch 0) refl test.on) is_kinded.1 in
      let middle = after_tree callees right first in
      let room = lines_as _ (append_assoc lines (I.Branch 0 ∷ []) (code_of callees first right)) yes.on in
      let tested = ap (λ (js : List Instruction). length js) test.on.lines in
      let second = line_at (I.Bool false) (I.Bool false) refl (second_at lines _ _ tested room) in
      let branched = lines ++ I.Branch (middle.place + 1) ∷ code_of callees first right in
      let last = thrice_on middle (lines_as _ (append_assoc branched (I.Jump 0 ∷ target middle.below ∷ []) (I.Bool false ∷ [])) second) in
      let behind = ap (λ (js : List Instruction). length js) room.lines ∙ as_long lines _ (I.Branch 0) (I.Branch (middle.place + 1)) in
      let all = value_end_at branched (target middle.below ∷ I.Bool false ∷ []) truth_kind truth_kind _ behind refl last in
      ended (two Two.And left right) (compiled callees so_far (two Two.And left right)) start is_kinded refl all.scope all.below
      (all.locals ∙ two_more kept (local_kinds heads names left) (local_kinds heads names right))
      (all.lines ∙ branch_lines above (code_of callees site left) (code_of callees first right) (I.Bool false ∷ []) _ _ _ _)

  -- two values, of which the second is on top
  pub both_at : (left right : Tree) → Claim left → Claim right → (so_far : Written) (site : Site) (kept : List ValueKind) (above : List Instruction)
      → At so_far site kept above
      → IsKinded basin (callee_heads callees) (names_in site.scope) left → IsKinded basin (callee_heads callees) (names_in site.scope) right
      → Both left right so_far site kept above
  both_at left right claim_of_left claim_of_right so_far site kept above start first second =
      let heads = callee_heads callees in
      let left_written = claim_of_left so_far site kept above start first in
      let waits = operand_at (compiled callees so_far left).kind (kind_of_tree callees site left) left_written.kind left_written.on in
      let right_written = claim_of_right _ (over (kind_of_tree callees site left) (after_tree callees left site)) _ _ waits second in
      let behind = after_tree callees right (after_tree callees left site) in
      record {
        left = left_written.kind;
        right = right_written.kind;
        on = locals_as _ (two_more kept (local_kinds heads (names_in site.scope) left) (local_kinds heads (names_in site.scope) right))
            (lines_as _ (append_assoc above (code_of callees site left) _) (taken_at (kind_of_tree callees site left) behind right_written.on));
      }

  pub on_two : (word : TwoWord) (left right : Tree) → Claim left → Claim right
      → (so_far : Written) (site : Site) (kept : List ValueKind) (above : List Instruction)
      → At so_far site kept above
      → (is_kinded : IsKinded basin (callee_heads callees) (names_in site.scope) (two word left right))
      → code_of callees site (two word left right) ≡ plain_two word left right site
      → Left (two word left right) (operated word left right so_far) site kept above
  on_two word left right claim_of_left claim_of_right so_far site kept above start is_kinded code =
      let both = both_at left right claim_of_left claim_of_right so_far site kept above start is_kinded.0 is_kinded.1 in
      let left_written = compiled callees so_far left in
      let right_written = compiled callees (with_operand left_written.kind left_written.on) right in
      let written = two_written word left_written.kind right_written.kind (without_operands 1 right_written.on) in
      ended (two word left right) (operated word left right so_far) start is_kinded
      ((λ i. kind_of_two word (both.left i) (both.right i))
      ∙ kind_of_two_is word (kind_of_tree callees site left) (kind_of_tree callees site right) is_kinded.2)
      (ap (λ (version : Written). version.scope) written ∙ both.on.scope)
      (ap (λ (version : Written). version.below) written ∙ both.on.below)
      (ap (λ (version : Written). version.locals) written ∙ both.on.locals)
      (ap (λ (version : Written). version.lines) written ∙ (λ i. both.on.lines i ++ two_lines word (both.left i) (both.right i))
      ∙ append_assoc above _ (two_lines word (kind_of_tree callees site left) (kind_of_tree callees site right))
      ∙ ap (λ js. above ++ js)
      (append_assoc (code_of callees site left) _ (two_lines word (kind_of_tree callees site left) (kind_of_tree callees site right)) ∙ sym code))

  pub on_at : (slot_tree date : Tree) → Claim slot_tree → Claim date → Claim (at slot_tree date)
  on_at slot_tree date claim_of_slot_tree claim_of_date so_far site kept above start is_kinded =
      let both = both_at slot_tree date claim_of_slot_tree claim_of_date so_far site kept above start is_kinded.0 is_kinded.2 in
      ended (at slot_tree date) (compiled callees so_far (at slot_tree date)) start is_kinded refl both.on.scope both.on.below both.on.locals
      ((λ i. both.on.lines i ++ I.Read ∷ []) ∙ append_assoc above _ (I.Read ∷ [])
      ∙ ap (λ js. above ++ js) (append_assoc (code_of callees site slot_tree) _
      (I.Read ∷ [])))

  pub on_known : (slot_tree date : Tree) → Claim slot_tree → Claim date → Claim (one One.Known (at slot_tree date))
  on_known slot_tree date claim_of_slot_tree claim_of_date so_far site kept above start is_kinded =
      let both = both_at slot_tree date claim_of_slot_tree claim_of_date so_far site kept above start is_kinded.0.0 is_kinded.0.2 in
      ended (one One.Known (at slot_tree date))
      (compiled callees so_far (one One.Known (at slot_tree date))) start is_kinded refl both.on.scope both.on.below both.on.locals
      ((λ i. both.on.lines i ++ I.Known ∷ []) ∙ append_assoc above _ (I.Known ∷ []))

  -- a line behind an expression
  pub on_one : (expression value_tree : Tree) (kind : Kind) (line other_line : Instruction) → Claim value_tree
      → (so_far : Written) (site : Site) (kept : List ValueKind) (above : List Instruction)
      → At so_far site kept above
      → IsKinded basin (callee_heads callees) (names_in site.scope) expression
      → IsKinded basin (callee_heads callees) (names_in site.scope) value_tree
      → kind ≡ kind_of_tree callees site expression → line ≡ other_line
      → code_of callees site expression ≡ code_of callees site value_tree ++ other_line ∷ []
      → local_kinds (callee_heads callees) (names_in site.scope) expression ≡ local_kinds (callee_heads callees) (names_in site.scope) value_tree
      → Left expression (written_step kind (with_line line (compiled callees so_far value_tree).on)) site kept above
  on_one expression value_tree kind line other_line claim_of_value_tree so_far site kept above start is_kinded part known same code locals =
      let own = claim_of_value_tree so_far site kept above start part in
      ended expression (written_step kind (with_line line (compiled callees so_far value_tree).on)) start is_kinded known own.on.scope own.on.below
      (own.on.locals ∙ ap (λ kinds. kept ++ code_kinds kinds) (sym locals))
      ((λ x. own.on.lines x ++ same x ∷ []) ∙ append_assoc above _ (other_line ∷ []) ∙ ap (λ js. above ++ js) (sym code))

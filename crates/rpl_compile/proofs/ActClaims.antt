-- The lines of statements are those that TRANSLATE gives: each form over its parts, and by recursion all statements (`claim_acts`).
use Rattle.rpl_compile.proofs.Common.{Act, Acts, AllByRecursion, AreKindedActs, Callee, Draft, Instruction, IsBasin, IsKindedAct, Kind, List, N, Site}
use Rattle.rpl_compile.proofs.Common.{Tree, ValueKind, Written, [], act, act_code, act_local_kinds, act_locals, acts_code, acts_local_kinds}
use Rattle.rpl_compile.proofs.Common.{acts_locals, after_act, after_acts, after_tree, ap, append-nil, append_assoc, arith, assign, at_most_30, bound}
use Rattle.rpl_compile.proofs.Common.{branch, callee_heads, code_kind, code_kinds, code_of, compiled, compiled_act, compiled_acts, keeping}
use Rattle.rpl_compile.proofs.Common.{kind_of_tree, knowing, length, length-map, local_kinds, names_in, no_acts, on, outer, refl, reverse}
use Rattle.rpl_compile.proofs.Common.{size_of_act, size_of_acts, slot_named, sym, target, unsigned_abs, with_local, with_name, ℕ, ℤ, ◌++◌, ◌+◌, ◌∙◌}
use Rattle.rpl_compile.proofs.Common.{◌∷◌, ◌≡◌}
use Rattle.rpl_code.specs.declared.instruction.Instruction.TheVariants as I
use Rattle.rpl_compile.proofs.Claims.{claim}
use Rattle.rpl_compile.proofs.Forms.{behind_one, branch_lines, three_more, two_more, value_lines}
use Rattle.rpl_compile.proofs.Plain.{IsSpelt, byte_is, owner_spelt, slot_spelt}
use Rattle.rpl_compile.proofs.Sizes.{act-size, acts-size}
use Rattle.rpl_compile.proofs.AtSites.{At, as_long, end_at, kind_at, line_at, lines_as, local_at, locals_as, longer, name_at, second_at}
use Rattle.rpl_compile.proofs.LocalSizes.{act_locals_size, acts_locals_size}
use Rattle.rpl_compile.proofs.Found.{is_there}

-- places and numbers follow
left_at : {so_far : Written} {site : Site} {kept : List ValueKind} {above : List Instruction} (result : Written) (kinds : List Kind)
    (code : List Instruction) (many_locals many_lines : ℕ)
    → At so_far site kept above → length kinds ≡ many_locals → length code ≡ many_lines → result.scope ≡ site.scope
    → result.below ≡ reverse (code_kinds site.below) → result.locals ≡ kept
    ++ code_kinds kinds
    → result.lines ≡ above ++ code → At result (on many_lines (keeping many_locals site)) (kept ++ code_kinds kinds) (above ++ code)
left_at {so_far} {site} {kept} {above} result kinds code many_locals many_lines start counted long scope below locals lines = record {
  scope = scope;
  below = below;
  locals = locals;
  lines = lines;
  free = longer kept (code_kinds kinds) start.free ∙ ap (λ k. site.free + k) (length-map kinds code_kind ∙ counted);
  place = longer above code start.place ∙ ap (λ k. site.place + k) long;
}

module _ (basin : Draft) (callees : List Callee) (spelled : AllByRecursion IsSpelt callees) (valid : IsBasin basin) where
  abbrev ClaimAct : Act → Type 0
  ClaimAct statement =
      (so_far : Written) (site : Site) (kept : List ValueKind) (above : List Instruction) → At so_far site kept above
      → IsKindedAct basin (callee_heads callees)
      (names_in site.scope) statement
      → At (compiled_act callees so_far statement) (after_act callees statement site)
      (kept ++ code_kinds (act_local_kinds (callee_heads callees) (names_in site.scope) statement))
      (above ++ act_code callees site statement)

  abbrev ClaimActs : Acts → Type 0
  ClaimActs statements =
      (so_far : Written) (site : Site) (kept : List ValueKind) (above : List Instruction) → At so_far site kept above
      → AreKindedActs basin (callee_heads callees)
      (names_in site.scope) statements
      → At (compiled_acts callees so_far statements) (after_acts callees statements site) (kept ++ code_kinds (acts_local_kinds (callee_heads callees)
      (names_in site.scope) statements))
      (above ++ acts_code callees site statements)

  -- a statement, once its lines are known
  act_ended : {so_far : Written} {site : Site} {kept : List ValueKind} {above : List Instruction} (statement : Act) → At so_far site kept above
      → IsKindedAct basin (callee_heads callees) (names_in site.scope) statement → (compiled_act callees so_far statement).scope ≡ site.scope
      → (compiled_act callees so_far statement).below ≡ reverse (code_kinds site.below)
      → (compiled_act callees so_far statement).locals ≡ kept ++ code_kinds (act_local_kinds (callee_heads callees) (names_in site.scope) statement)
      → (compiled_act callees so_far statement).lines ≡ above ++ act_code callees site statement
      → At (compiled_act callees so_far statement) (after_act callees statement site)
      (kept ++ code_kinds (act_local_kinds (callee_heads callees) (names_in site.scope) statement))
      (above ++ act_code callees site statement)
  act_ended {so_far} {site} {kept} {above} statement start is_kinded_act scope below locals lines =
      left_at (compiled_act callees so_far statement) (act_local_kinds (callee_heads callees) (names_in site.scope) statement)
      (act_code callees site statement) (act_locals statement)
      (size_of_act (callee_heads callees) (names_in site.scope) statement) start
      (act_locals_size (callee_heads callees) statement (names_in site.scope))
      (act-size basin callees site statement is_kinded_act) scope below locals lines

  on_assign : (object slot_name : List ℕ) (ahead : ℤ) (value_tree : Tree) → ClaimAct (assign object slot_name ahead value_tree)
  on_assign object slot_name ahead value_tree so_far site kept above start (kinded, number, (found, near)) =
      let own = claim basin callees spelled valid value_tree so_far site kept above start kinded in
      let there = is_there (slot_named basin.objects object slot_name) _ found in
      let few = at_most_30 basin ahead valid near in
      let steps = byte_is (unsigned_abs ahead) (omega (arith, few)) in
      act_ended (assign object slot_name ahead value_tree) start (kinded, number, (found, near)) own.on.scope own.on.below own.on.locals
      ((λ i. own.on.lines i
      ++ I.Put (owner_spelt basin valid object slot_name there i) (slot_spelt basin valid object slot_name there i) (steps i) ∷ [])
      ∙ append_assoc above (code_of callees site value_tree) (I.Put object slot_name (unsigned_abs ahead) ∷ []))

  on_branch : (condition : Tree) (first second : Acts) → ClaimActs first → ClaimActs second → ClaimAct (branch condition first second)
  on_branch condition first second claim_of_first claim_of_second so_far site kept above start is_kinded_act =
      let heads = callee_heads callees in
      let names = names_in site.scope in
      let test = claim basin callees spelled valid condition so_far site kept above start is_kinded_act.0 in
      let lines = above ++ code_of callees site condition in
      let ahead = on 1 (after_tree callees condition site) in
      let yes = claim_of_first _ ahead _ _ (line_at (I.Branch 0) (I.Branch 0) refl test.on) is_kinded_act.2 in
      let middle = after_acts callees first ahead in
      let room = lines_as _ (append_assoc lines (I.Branch 0 ∷ []) (acts_code callees ahead first)) yes in
      let tested = ap (λ (js : List Instruction). length js) test.on.lines in
      let branched = lines ++ I.Branch (middle.place + 1) ∷ acts_code callees ahead first in
      let no = claim_of_second _ (on 2 middle) _ _ (second_at lines _ _ tested room) is_kinded_act.3 in
      let last = lines_as _ (append_assoc branched (I.Jump 0 ∷ target middle.below ∷ []) (acts_code callees (on 2 middle) second)) no in
      let behind = ap (λ (js : List Instruction). length js) room.lines ∙ as_long lines _ (I.Branch 0) (I.Branch (middle.place + 1)) in
      let all = end_at branched (target middle.below ∷ acts_code callees (on 2 middle) second) _ (target site.below) _ behind
      (ap I.Target last.below) last in
      act_ended (branch condition first second) start is_kinded_act all.scope all.below
      (all.locals ∙ three_more kept (local_kinds heads names condition) (acts_local_kinds heads names first) (acts_local_kinds heads names second))
      (all.lines ∙ branch_lines above (code_of callees site condition) (acts_code callees ahead first)
      (acts_code callees (on 2 middle) second) _ _ _ _)

  on_with : (new_name : List ℕ) (value_tree : Tree) (body : Acts) → ClaimActs body → ClaimAct (with_name new_name value_tree body)
  on_with new_name value_tree body claim_of_body so_far site kept above start is_kinded_act =
      let heads = callee_heads callees in
      let names = names_in site.scope in
      let kind = kind_of_tree callees site value_tree in
      let number : length so_far.locals ≡ length kept = ap (λ (also_kept : List ValueKind). length also_kept) start.locals in
      let value_written = claim basin callees spelled valid value_tree _ (keeping 1 site) _ _ (local_at start) is_kinded_act.0 in
      let known = kind_at kept (code_kinds (local_kinds heads names value_tree)) N (compiled callees (with_local so_far) value_tree).kind kind
      (length so_far.locals) number value_written.kind
      (locals_as _ (append_assoc kept (N ∷ []) (code_kinds (local_kinds heads names value_tree))) value_written.on) in
      let stored = line_at (I.Store (length so_far.locals)) (I.Store site.free) (ap I.Store (number ∙ start.free)) known in
      let named =
      name_at new_name (compiled callees (with_local so_far) value_tree).kind kind (length so_far.locals) site.free value_written.kind
      (number ∙ start.free) stored in
      let inside = knowing (bound new_name kind site.free) (on 1 (after_tree callees value_tree (keeping 1 site))) in
      let within = claim_of_body _ inside _ _ named is_kinded_act.1 in
      act_ended (with_name new_name value_tree body) start is_kinded_act (ap outer within.scope) within.below
      (within.locals ∙ behind_one kept kind (local_kinds heads names value_tree) (acts_local_kinds heads ((new_name, kind) ∷ names) body))
      (within.lines ∙ value_lines above (code_of callees (keeping 1 site) value_tree) (acts_code callees inside body) (I.Store site.free))

  on_no_acts : ClaimActs no_acts
  on_no_acts so_far site kept above start are_kinded_acts =
      left_at so_far [] [] 0 0 start refl refl start.scope start.below (start.locals ∙ sym (append-nil kept)) (start.lines ∙ sym (append-nil above))

  on_act : (statement : Act) (rest : Acts) → ClaimAct statement → ClaimActs rest → ClaimActs (act statement rest)
  on_act statement rest claim_of_statement claim_of_rest so_far site kept above start are_kinded_acts =
      let heads = callee_heads callees in
      let names = names_in site.scope in
      let first = claim_of_statement so_far site kept above start are_kinded_acts.0 in
      let others = claim_of_rest _ (after_act callees statement site) _ _ first are_kinded_acts.1 in
      left_at (compiled_acts callees so_far (act statement rest)) (acts_local_kinds heads names (act statement rest))
      (acts_code callees site (act statement rest)) (acts_locals
      (act statement rest))
      (size_of_acts heads names (act statement rest)) start (acts_locals_size heads (act statement rest) names) (acts-size basin callees site
      (act statement rest) are_kinded_acts) others.scope others.below
      (others.locals ∙ two_more kept (act_local_kinds heads names statement) (acts_local_kinds heads names rest))
      (others.lines ∙ append_assoc above (act_code callees site statement) (acts_code callees (after_act callees statement site) rest))

  mutual
    pub claim_act : (statement : Act) → ClaimAct statement
    claim_act (assign object slot_name ahead value_tree) = on_assign object slot_name ahead value_tree
    claim_act (branch condition first second) = on_branch condition first second (claim_acts first) (claim_acts second)
    claim_act (with_name new_name value_tree body) = on_with new_name value_tree body (claim_acts body)

    pub claim_acts : (statements : Acts) → ClaimActs statements
    claim_acts no_acts = on_no_acts
    claim_acts (act first others) = on_act first others (claim_act first) (claim_acts others)

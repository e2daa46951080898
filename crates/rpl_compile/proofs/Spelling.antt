-- Compiled code can be spelt.
use Rattle.rpl_compile.proofs.Common.{Acts, AllByRecursion, AreKindedActs, AreKindedFrom, AreLimited, AreWithin, Callee, Declared, Draft, IsBasin}
use Rattle.rpl_compile.proofs.Common.{IsBlock, IsCode, IsKindedBody, IsNumber, IsTyped, List, Names, Parameter, Site, Some, Tree, TypeName, []}
use Rattle.rpl_compile.proofs.Common.{acts_local_kinds, acts_locals, acts_nodes, ap, arith, blocks_from, callee_heads, code_of, function}
use Rattle.rpl_compile.proofs.Common.{function_block, function_count, kind_of_type, length, local_count, local_kinds, names_in, node_count, nodes_of}
use Rattle.rpl_compile.proofs.Common.{param_kinds, param_names, parameters_from, predefined_callees, refl, room_lines, rule, rule_block, rule_count}
use Rattle.rpl_compile.proofs.Common.{size, size_of_acts, start, subst, suc, sym, translate, tree_kind, widening_size, ℕ, ◌*◌, ◌+◌, ◌∷◌, ◌≡◌, ◌≤◌}
use Rattle.rpl_compile.proofs.Sizes.{acts-size, beside, code-size, widening-size}
use Rattle.rpl_compile.proofs.TypedKinds.{typed_is_kinded}
use Rattle.rpl_compile.proofs.LocalFacts.{parameter_names}
use Rattle.rpl_compile.proofs.TreeBounds.{few_acts_locals, few_for_acts, few_lines, few_locals, widening_few}
use Rattle.rpl_compile.proofs.SpeltKinds.{AreSpelt, acts_locals_spelt, kinds_of_code, locals_spelt}
use Rattle.rpl_compile.proofs.SpeltLines.{AreBoundSpelt, AreCalleesSpelt, behind, callees_known, names_known, widening_spelt}
use Rattle.rpl_compile.proofs.SpeltCode.{acts_spelt, code_spelt}
use Rattle.rpl_compile.proofs.SpeltHeads.{AreHeads, IsHeadSpelt, typed_heads}

-- ---- numbers

-- 8 for each node that there may be at most
few : (count nodes : ℕ) → count ≤ 8 * nodes → nodes ≤ 16777216 → IsNumber count
few count nodes lines_few most = omega (arith, lines_few, most)

few_beside : (params own nodes : ℕ) → params ≤ 1000000 → own ≤ 2 * nodes → nodes ≤ 16777216 → IsNumber (params + own)
few_beside params own nodes few_parameters few_own most = omega (arith, few_parameters, few_own, most)

-- ---- blocks

module _ (basin : Draft) (valid : IsBasin basin) (callees : List Callee) (called : AreCalleesSpelt callees) where
  rule_spelt : (body : Acts) → AreKindedActs basin (callee_heads callees) [] body → acts_nodes body ≤ 16777216 → IsBlock (rule_block callees body)
  rule_spelt body are_kinded_acts most =
      let heads = callee_heads callees in
      let lines = size_of_acts heads [] body in
      let own = acts_locals body in
      let places : IsNumber lines = few lines (acts_nodes body) (few_for_acts heads [] body) most in
      let own_few = few_acts_locals body in
      let locals : IsNumber own = few own (acts_nodes body) (omega (arith, own_few)) most in
      record {
        head = tt;
        locals = kinds_of_code (acts_local_kinds heads [] body)
            (acts_locals_spelt basin heads (callees_known callees called) [] body tt are_kinded_acts);
        lines = acts_spelt basin valid callees called lines own places locals body (start [] 0) (tt, tt) are_kinded_acts (omega arith) (omega arith);
        places = subst IsNumber (sym (acts-size basin callees (start [] 0) body are_kinded_acts)) places;
      }

  scope_spelt : (n : ℕ) (parameters : List Parameter) (most : ℕ) → AreSpelt (param_kinds parameters) → n + length parameters ≤ most → IsNumber most
      → AreBoundSpelt (parameters_from n parameters)
  scope_spelt n [] most are_spelt at_most number = tt
  scope_spelt n (parameter ∷ parameters) most are_spelt at_most number =
      (are_spelt.0, omega (arith, at_most, number), scope_spelt (n + 1) parameters most are_spelt.1 (omega (arith, at_most)) number)

  function_spelt : (parameters : List Parameter) (result : TypeName) (body : Tree)
      → IsKindedBody basin (callee_heads callees) (param_names parameters) (kind_of_type result) body
      → IsHeadSpelt parameters result → length parameters ≤ 1000000 → node_count body ≤ 16777216
      → IsBlock (function_block callees parameters (kind_of_type result) body)
  function_spelt parameters result body kinded head few_params most =
      let heads = callee_heads callees in
      let kind = kind_of_type result in
      let scope = parameters_from 0 parameters in
      let names : Names = names_in scope in
      let site : Site = start scope (length parameters) in
      let is_kinded_body : IsKindedBody basin heads names kind body =
      subst (λ (ns : Names). IsKindedBody basin heads ns kind body) (sym (parameter_names 0 parameters)) kinded in
      let wide = widening_size kind (tree_kind heads names body) in
      let lines = size heads names body in
      let most_lines = few_lines heads names body in
      let most_wide = widening_few kind (tree_kind heads names body) in
      let places : IsNumber lines = few lines (node_count body) (omega (arith, most_lines)) most in
      let all : IsNumber (lines + wide) = few (lines + wide) (node_count body) (omega (arith, most_lines, most_wide)) most in
      let own = length parameters + local_count body in
      let locals : IsNumber own = few_beside (length parameters) (local_count body) (node_count body) few_params (few_locals body) most in
      let known : AreBoundSpelt scope = scope_spelt 0 parameters own head.0 (omega arith) locals in
      record {
        head = (head.1, kinds_of_code (param_kinds parameters) head.0);
        locals = kinds_of_code (local_kinds heads names body)
            (locals_spelt basin heads (callees_known callees called) names body (names_known scope known) is_kinded_body.0);
        lines = behind (code_of callees site body) (room_lines callees kind site body)
            (code_spelt basin valid callees called lines own places locals body site (known, tt) is_kinded_body.0 (omega arith) (omega arith))
            (widening_spelt kind (tree_kind heads names body) is_kinded_body.1 head.1);
        places = subst IsNumber
            (sym (beside (code_of callees site body) (room_lines callees kind site body) (code-size basin callees site body is_kinded_body.0)
            (widening-size kind (tree_kind heads names body)))) all;
      }

-- ---- rulesets

blocks_spelt : (basin : Draft) (callees : List Callee) (number : ℕ) (declarations : List Declared) → IsBasin basin → AreCalleesSpelt callees
    → AreKindedFrom basin (callee_heads callees) declarations
    → AreHeads declarations → AreWithin nodes_of 16777216 declarations → number + length declarations ≤ 401
    → AllByRecursion IsBlock (blocks_from callees number declarations)
blocks_spelt basin callees number [] valid called kinded heads nodes last = tt
blocks_spelt basin callees number (rule called_so body ∷ declarations) valid called kinded heads nodes last = (
  rule_spelt basin valid callees called body kinded.0 nodes.0,
  blocks_spelt basin callees (number + 1) declarations valid called kinded.1 heads nodes.1 (omega (arith, last)),
)
blocks_spelt basin callees number (function called_so parameters result body ∷ declarations) valid called kinded heads nodes last =
    let callee : Callee =
    record { head = record { name = called_so; takes = param_kinds parameters; result = kind_of_type result }; block = Some number } in (
      function_spelt basin valid callees called parameters result body kinded.0 heads.0 heads.1 nodes.0,
      blocks_spelt basin (callee ∷ callees) (number + 1) declarations valid
          (heads.0.0, heads.0.1, omega (arith, last), called) kinded.1 heads.2 nodes.1
          (omega (arith, last)),
    )

predefined_spelt : AreCalleesSpelt predefined_callees
predefined_spelt = (
  (tt, (tt, tt)),
  tt,
  refl,
  (
    (tt, (tt, tt)),
    tt,
    refl,
    (
      (tt, tt),
      tt,
      refl,
      ((tt, (tt, (tt, tt))), tt, refl, ((tt, (tt, tt)), tt, refl, ((tt, tt), tt, refl, ((tt, (tt, (tt, tt))), tt, refl, tt)))),
    ),
  ),
)

as_many_blocks : (callees : List Callee) (number : ℕ) (declarations : List Declared)
    → length (blocks_from callees number declarations) ≡ length declarations
as_many_blocks callees number [] = refl
as_many_blocks callees number (rule called_so body ∷ declarations) = ap suc (as_many_blocks callees (number + 1) declarations)
as_many_blocks callees number (function called_so parameters result body ∷ declarations) = ap suc (as_many_blocks _ (number + 1) declarations)

each_counted : (declarations : List Declared) → length declarations ≡ rule_count declarations + function_count declarations
each_counted [] = refl
each_counted (rule called_so body ∷ declarations) = let h = each_counted declarations in omega (arith, h)
each_counted (function called_so parameters result body ∷ declarations) = let h = each_counted declarations in omega (arith, h)

pub compiled_can_be_spelt : (basin : Draft) (rules : List Declared) → IsBasin basin → IsTyped basin rules → AreLimited rules
    → IsCode (translate rules)
compiled_can_be_spelt basin rules valid typed bounded =
    let counted = each_counted rules in
    let few_rules = bounded.rules in
    let few_functions = bounded.functions in
    let last : 1 + length rules ≤ 401 = omega (arith, counted, few_rules, few_functions) in
    let blocks = as_many_blocks predefined_callees 1 rules in
    record {
      each = blocks_spelt basin predefined_callees 1 rules valid predefined_spelt (typed_is_kinded basin rules typed)
          (typed_heads basin rules typed) bounded.nodes last;
      numbers = omega (arith, blocks, last);
    }

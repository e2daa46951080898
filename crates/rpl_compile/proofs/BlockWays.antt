-- The code of a declaration leads from nothing to what its block leaves, and comes to what the declaration costs.
use Rattle.rpl_compile.proofs.Common.{Acts, AreKindedActs, Block, BoundName, Callee, Costed, Draft, Head, Instruction, IsKindedBody, Kind, List}
use Rattle.rpl_compile.proofs.Common.{Names, Parameter, Price, Scope, Site, Tree, ValueKind, [], acts_local_kinds, ap, arith, before, behind}
use Rattle.rpl_compile.proofs.Common.{callee_heads, code_kind, code_kinds, costed_heads, function_block, height, height_of_acts, length, local_kinds}
use Rattle.rpl_compile.proofs.Common.{max, most, most_of_acts, most_of_body, names_in, param_kinds, param_names, parameters_from, refl, rule_block}
use Rattle.rpl_compile.proofs.Common.{scope_of, start, subst, suc, sym, to_widen, tree_kind, weight, words_kept, ℕ, ◌+◌, ◌∙◌, ◌∷◌, ◌≡◌}
use Rattle.rpl_compile.proofs.Sizes.{code-size}
use Rattle.rpl_compile.proofs.LocalFacts.{Placed, parameter_names}
use Rattle.rpl_compile.proofs.Placing.{HasAt, has_all, has_behind, has_front}
use Rattle.rpl_compile.proofs.Counting.{Account}
use Rattle.rpl_compile.proofs.Going.{Goes, goes_as, goes_then}
use Rattle.rpl_compile.proofs.WordLines.{widen_goes}
use Rattle.rpl_compile.proofs.FlowingTrees.{flows}
use Rattle.rpl_compile.proofs.Costing.{CallsFit, Costing}
use Rattle.rpl_compile.proofs.FlowingActs.{flows_acts}
use Rattle.rpl_compile.proofs.OfKind.{words_coded}

-- ---- parameters

pub parameters_placed : (locals : List ValueKind) (number : ℕ) (parameters : List Parameter)
    → HasAt locals number (code_kinds (param_kinds parameters))
    → Placed locals (parameters_from number parameters)
parameters_placed locals number [] placed = tt
parameters_placed locals number (parameter ∷ parameters) placed =
    let same_place : suc number ≡ number + 1 = omega arith in (
      placed.0,
      parameters_placed locals (number + 1) parameters
          (subst (λ m. HasAt locals m (code_kinds (param_kinds parameters))) same_place placed.1),
    )

pub parameter_count : (parameters : List Parameter) → length (code_kinds (param_kinds parameters)) ≡ length parameters
parameter_count [] = refl
parameter_count (parameter ∷ parameters) = ap suc (parameter_count parameters)

-- ---- blocks

module _ (basin : Draft) (all : List Block) (number : ℕ) (callees : List Callee) (functions deep : List Costed)
    (same_heads : callee_heads callees ≡ costed_heads functions)
    (deep_heads : callee_heads callees ≡ costed_heads deep) (pays : Price) where
  pub rule_goes : (body : Acts)
      → let block : Block = rule_block callees body in
      let scope : Scope = scope_of basin all number block in
      (account : Account scope block.lines pays) → CallsFit scope block.lines pays account callees functions deep
      → AreKindedActs basin (callee_heads callees) [] body
      → Goes scope block.lines refl pays account block.lines 0 (before [] []) (before [] []) (most_of_acts pays functions [] body)
      (words_kept scope.locals (before [] []) + height_of_acts deep [] body)
  rule_goes body account calls are_kinded_acts =
      let block : Block = rule_block callees body in
      let scope : Scope = scope_of basin all number block in
      let costing : Costing = record {
        callees = callees;
        functions = functions;
        deep = deep;
        same_heads = same_heads;
        deep_heads = deep_heads;
        scope = scope;
        lines = block.lines;
        spots_are = refl;
        pays = pays;
        account = account;
        calls = calls;
      } in
      flows_acts costing refl body (start [] 0) [] are_kinded_acts tt
      (has_all (code_kinds (acts_local_kinds (callee_heads callees) [] body)))

  -- of a function's body, by the heads of functions and the names that it uses
  abbrev most_by : Kind → Tree → List Head → Names → ℕ
  most_by result body heads names = most pays functions names body + to_widen pays functions result (tree_kind heads names body)

  pub function_goes : (parameters : List Parameter) (result : Kind) (body : Tree)
      → let block : Block = function_block callees parameters result body in
      let scope : Scope = scope_of basin all number block in
      (account : Account scope block.lines pays) → CallsFit scope block.lines pays account callees functions deep
      → IsKindedBody basin (callee_heads callees) (param_names parameters) result body
      → Goes scope block.lines refl pays account block.lines 0 (before [] []) (before (code_kind result ∷ []) [])
      (most_of_body pays functions (param_names parameters) result body)
      (words_kept scope.locals (before [] []) + max (height deep (param_names parameters) body) (weight result))
  function_goes parameters result body account calls is_kinded_body =
      let block : Block = function_block callees parameters result body in
      let scope : Scope = scope_of basin all number block in
      let lines : List Instruction = block.lines in
      let bounds : List BoundName = parameters_from 0 parameters in
      let site : Site = start bounds (length parameters) in
      let heads : List Head = callee_heads callees in
      let own = code_kinds (local_kinds heads (names_in bounds) body) in
      let kinded : IsKindedBody basin heads (names_in bounds) result body =
      subst (λ names. IsKindedBody basin heads names result body) (sym (parameter_names 0 parameters)) is_kinded_body in
      let placed : Placed scope.locals bounds =
      parameters_placed scope.locals 0 parameters (has_front scope.locals 0 (code_kinds (param_kinds parameters)) own (has_all scope.locals)) in
      let own_there : HasAt scope.locals (length parameters) own =
      subst (λ n. HasAt scope.locals n own) (parameter_count parameters) (has_behind (code_kinds (param_kinds parameters)) own) in
      let kind : Kind = tree_kind heads (names_in bounds) body in
      let costing : Costing = record {
        callees = callees;
        functions = functions;
        deep = deep;
        same_heads = same_heads;
        deep_heads = deep_heads;
        scope = scope;
        lines = block.lines;
        spots_are = refl;
        pays = pays;
        account = account;
        calls = calls;
      } in
      let way = flows costing body site [] kinded.0 placed own_there in
      let low = way.tall in
      let result_words = words_coded result in
      let sum : most_by result body heads (names_in bounds) ≡ most_by result body (costed_heads functions) (param_names parameters) =
      ap (λ hs. most_by result body hs (names_in bounds)) same_heads
      ∙ ap (most_by result body (costed_heads functions)) (parameter_names 0 parameters) in
      let high : height deep (names_in bounds) body ≡ height deep (param_names parameters) body =
      ap (λ names. height deep names body) (parameter_names 0 parameters) in
      goes_as scope lines refl pays account
      (goes_then scope lines refl pays account (ap (λ n. 0 + n) (sym (code-size basin callees site body kinded.0))) way
      (widen_goes scope lines refl pays account result kind kinded.1 (behind heads body site).place [] [])) sum
      (omega (arith, low, result_words, high))

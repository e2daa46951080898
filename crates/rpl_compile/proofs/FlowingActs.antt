-- The code of statements leads back to the operands that stand below it, and comes to what they cost: by recursion on them.
use Rattle.rpl_compile.proofs.Common.{Act, Acts, AreKindedActs, Before, Instruction, IsKinded, IsKindedAct, Kind, List, Names, Open, Rule, Site, Tree}
use Rattle.rpl_compile.proofs.Common.{ValueKind, act, act_code, act_local_kinds, acts_code, acts_local_kinds, ap, arith, assign, before, behind}
use Rattle.rpl_compile.proofs.Common.{behind_act, behind_acts, bound, branch, code_kind, code_kinds, code_of, costed_heads, height_of_act}
use Rattle.rpl_compile.proofs.Common.{height_of_acts, judged_at, keeping, knowing, length, local_kinds, most_of_act, most_of_acts, names_in, no_acts}
use Rattle.rpl_compile.proofs.Common.{on, refl, size_of_acts, subst, suc, sym, tree_kind, unsigned_abs, weight, with_name, words_kept, ℕ, ℤ, ◌++◌}
use Rattle.rpl_compile.proofs.Common.{◌+◌, ◌∙◌, ◌∷◌, ◌≡◌, ◌≤◌}
use Rattle.rpl_code.specs.declared.kind.ValueKind.TheVariants as K
use Rattle.rpl_code.specs.declared.instruction.Instruction.TheVariants as I
use Rattle.rpl_compile.proofs.Sizes.{act-size, acts-size, code-size}
use Rattle.rpl_compile.proofs.LocalFacts.{Placed, kinds_back, kinds_front}
use Rattle.rpl_compile.proofs.Placing.{HasAt}
use Rattle.rpl_compile.proofs.Going.{goes_choice, goes_none}
use Rattle.rpl_compile.proofs.Lines.{put_fits, store_fits}
use Rattle.rpl_compile.proofs.FlowingTrees.{flows}
use Rattle.rpl_compile.proofs.Costing.{Leads, Costing, cost, heads, here, kept, line, seq, tall_of, to, told}
use Rattle.rpl_compile.proofs.OfKind.{words_coded}
use Rattle.rpl_compile.proofs.LocalSizes.{locals_size, act_locals_size, acts_locals_size}

module _ (costing : Costing) (in_rule : costing.scope.head ≡ Rule) where
  abbrev own_kinds : Site → Tree → List Kind
  own_kinds site expression = local_kinds (heads costing) (names_in site.scope) expression

  abbrev own_of_acts : Site → Acts → List Kind
  own_of_acts site statements = acts_local_kinds (heads costing) (names_in site.scope) statements

  -- an expression before statements
  pub record Value (expression : Tree) (site : Site) (open_loops : List Open) (kinds : List Kind) : Type 0 where
    pub way : Leads costing (code_of costing.callees site expression) site.place (here site open_loops)
        (before (code_kind (tree_kind (heads costing) (names_in site.scope) expression) ∷ code_kinds site.below) open_loops)
        (cost costing (names_in site.scope) expression) (kept costing (here site open_loops) + tall_of costing (names_in site.scope) expression)
    pub own : HasAt costing.scope.locals (behind (heads costing) expression site).free (code_kinds kinds)
    pub far : (behind (heads costing) expression site).place ≡ site.place + length (code_of costing.callees site expression)

  value : (expression : Tree) (site : Site) (open_loops : List Open) (kinds : List Kind)
      → IsKinded costing.scope.basin (heads costing) (names_in site.scope) expression
      → Placed costing.scope.locals site.scope
      → HasAt costing.scope.locals site.free (code_kinds (own_kinds site expression ++ kinds)) → Value expression site open_loops kinds
  value expression site open_loops kinds is_kinded placed own_locals = record {
    way = flows costing expression site open_loops is_kinded placed
        (kinds_front costing.scope.locals site.free (own_kinds site expression) kinds own_locals);
    own = kinds_back costing.scope.locals site.free _ (own_kinds site expression) kinds
        (locals_size (heads costing) expression (names_in site.scope)) own_locals;
    far = ap (λ n. site.place + n) (sym (code-size costing.scope.basin costing.callees site expression is_kinded));
  }

  abbrev Claim : Act → Type 0
  Claim statement =
      (site : Site) (open_loops : List Open) → IsKindedAct costing.scope.basin (heads costing) (names_in site.scope) statement
      → Placed costing.scope.locals site.scope
      → HasAt costing.scope.locals site.free (code_kinds (act_local_kinds (heads costing) (names_in site.scope) statement))
      → Leads costing (act_code costing.callees site statement) site.place (here site open_loops) (here site open_loops)
      (most_of_act costing.pays costing.functions (names_in site.scope) statement)
      (words_kept costing.scope.locals (here site open_loops) + height_of_act costing.deep (names_in site.scope) statement)

  abbrev ClaimAll : Acts → Type 0
  ClaimAll statements =
      (site : Site) (open_loops : List Open) → AreKindedActs costing.scope.basin (heads costing) (names_in site.scope) statements
      → Placed costing.scope.locals site.scope
      → HasAt costing.scope.locals site.free (code_kinds (acts_local_kinds (heads costing) (names_in site.scope) statements))
      → Leads costing (acts_code costing.callees site statements) site.place (here site open_loops) (here site open_loops)
      (most_of_acts costing.pays costing.functions (names_in site.scope) statements)
      (words_kept costing.scope.locals (here site open_loops) + height_of_acts costing.deep (names_in site.scope) statements)

  flow_assign : (object slot_name : List ℕ) (ahead : ℤ) (value_tree : Tree) → Claim (assign object slot_name ahead value_tree)
  flow_assign object slot_name ahead value_tree site open_loops is_kinded_act placed own_locals =
      let put_place : ℕ = (behind (heads costing) value_tree site).place in
      let way = flows costing value_tree site open_loops is_kinded_act.0 placed own_locals in
      let low = way.tall in
      told costing (seq costing (ap (λ n. site.place + n) (sym (code-size costing.scope.basin costing.callees site value_tree is_kinded_act.0))) way
      (line costing {instruction = I.Put object slot_name (unsigned_abs ahead)} {place = put_place} {at_end = here site open_loops}
      (ap (λ k. judged_at costing.scope put_place (before (code_kind k ∷ code_kinds site.below) open_loops)
      (I.Put object slot_name (unsigned_abs ahead))) is_kinded_act.1
      ∙ put_fits costing.scope put_place object slot_name ahead (code_kinds site.below) open_loops in_rule is_kinded_act.2) refl (λ x. x)
      (costing.account.prices.put _ object slot_name (unsigned_abs ahead)))) refl (omega (arith, low))

  flow_branch : (condition : Tree) (first second : Acts) → ClaimAll first → ClaimAll second → Claim (branch condition first second)
  flow_branch condition first second claim_of_first claim_of_second site open_loops is_kinded_act placed own_locals =
      let under : List ValueKind = code_kinds site.below in
      let ahead : Site = on 1 (behind (heads costing) condition site) in
      let middle : Site = behind_acts (heads costing) first ahead in
      let later : Site = on 2 middle in
      let end : Site = behind_acts (heads costing) second later in
      let first_lines : List Instruction = acts_code costing.callees ahead first in
      let second_lines : List Instruction = acts_code costing.callees later second in
      let condition_way = value condition site open_loops (own_of_acts site first ++ own_of_acts site second) is_kinded_act.0 placed own_locals in
      let own_second = kinds_back costing.scope.locals ahead.free _ (own_of_acts site first) (own_of_acts site second)
      (acts_locals_size (heads costing) first (names_in site.scope)) condition_way.own in
      let first_long : length first_lines ≡ size_of_acts (heads costing) (names_in site.scope) first =
      acts-size costing.scope.basin costing.callees ahead first is_kinded_act.2 in
      let second_long : length second_lines ≡ size_of_acts (heads costing) (names_in site.scope) second =
      acts-size costing.scope.basin costing.callees later second is_kinded_act.3 in
      let way = to costing (ap (λ k. before (code_kind k ∷ under) open_loops) is_kinded_act.1) condition_way.way in
      let low : kept costing (before (K.B ∷ under) open_loops)
      ≤ kept costing (here site open_loops) + tall_of costing (names_in site.scope) condition = way.tall in
      told costing (seq costing condition_way.far way
      (goes_choice costing.scope costing.lines costing.spots_are costing.pays costing.account first_lines second_lines
      (behind (heads costing) condition site).place ahead.place
      (middle.place + 1) later.place end.place _ _ _ _ under under open_loops
      refl (omega (arith, first_long)) (omega arith) (omega (arith, second_long))
      (claim_of_first ahead open_loops is_kinded_act.2 placed
      (kinds_front costing.scope.locals ahead.free (own_of_acts site first) (own_of_acts site second) condition_way.own))
      (claim_of_second later open_loops is_kinded_act.3 placed own_second))) refl (omega (arith, low))

  flow_with : (new_name : List ℕ) (value_tree : Tree) (body : Acts) → ClaimAll body → Claim (with_name new_name value_tree body)
  flow_with new_name value_tree body claim_of_body site open_loops is_kinded_act placed own_locals =
      let names : Names = names_in site.scope in
      let kind : Kind = tree_kind (heads costing) names value_tree in
      let under : List ValueKind = code_kinds site.below in
      let first : Site = keeping 1 site in
      let inside : Site = knowing (bound new_name kind site.free) (on 1 (behind (heads costing) value_tree first)) in
      let inner = acts_local_kinds (heads costing) ((new_name, kind) ∷ names) body in
      let same_place : suc site.free ≡ site.free + 1 = omega arith in
      let own : HasAt costing.scope.locals first.free (code_kinds (own_kinds site value_tree ++ inner)) =
      subst (λ n. HasAt costing.scope.locals n (code_kinds (own_kinds site value_tree ++ inner))) same_place own_locals.1 in
      let value_way = value value_tree first open_loops inner is_kinded_act.0 placed own in
      let low = value_way.way.tall in
      let before_store : Before = before (code_kind kind ∷ under) open_loops in
      let sum : costing.pays.step (weight kind) + most_of_acts costing.pays costing.functions ((new_name, kind) ∷ names) body
      ≡ costing.pays.step (weight (tree_kind (costed_heads costing.functions) names value_tree)) + most_of_acts costing.pays costing.functions
      ((new_name, tree_kind (costed_heads costing.functions) names value_tree) ∷ names) body =
      ap (λ heads. costing.pays.step (weight (tree_kind heads names value_tree)) + most_of_acts costing.pays costing.functions
      ((new_name, tree_kind heads names value_tree) ∷ names) body) costing.same_heads in
      let high : height_of_acts costing.deep ((new_name, kind) ∷ names) body
      ≡ height_of_acts costing.deep ((new_name, tree_kind (costed_heads costing.deep) names value_tree) ∷ names) body =
      ap (λ heads. height_of_acts costing.deep ((new_name, tree_kind heads names value_tree) ∷ names) body) costing.deep_heads in
      told costing (seq costing value_way.far value_way.way (seq costing refl
      (line costing
      (store_fits costing.scope (behind (heads costing) value_tree first).place site.free (code_kind kind) under open_loops own_locals.0) refl
      (λ x. x)
      (costing.account.prices.store before_store site.free (code_kind kind) own_locals.0 ∙ ap costing.pays.step (words_coded kind)))
      (claim_of_body inside open_loops is_kinded_act.1 (own_locals.0, placed) value_way.own))) (omega (arith, sum)) (omega (arith, low, high))

  flow_act : (statement : Act) (rest : Acts) → Claim statement → ClaimAll rest → ClaimAll (act statement rest)
  flow_act statement rest claim_of_statement claim_of_rest site open_loops are_kinded_acts placed own_locals =
      let own_locals_of = act_local_kinds (heads costing) (names_in site.scope) statement in
      let rest_locals = own_of_acts site rest in
      told costing (seq costing (ap (λ n. site.place + n) (sym (act-size costing.scope.basin costing.callees site statement are_kinded_acts.0)))
      (claim_of_statement site open_loops are_kinded_acts.0 placed (kinds_front costing.scope.locals site.free own_locals_of rest_locals own_locals))
      (claim_of_rest (behind_act (heads costing) statement site) open_loops are_kinded_acts.1 placed
      (kinds_back costing.scope.locals site.free _ own_locals_of rest_locals
      (act_locals_size (heads costing) statement (names_in site.scope)) own_locals))) refl
      (omega arith)

  mutual
    flows_act : (statement : Act) → Claim statement
    flows_act (assign object slot_name ahead value_tree) = flow_assign object slot_name ahead value_tree
    flows_act (branch condition first second) = flow_branch condition first second (flows_acts first) (flows_acts second)
    flows_act (with_name new_name value_tree body) = flow_with new_name value_tree body (flows_acts body)

    pub flows_acts : (statements : Acts) → ClaimAll statements
    flows_acts no_acts = λ site open_loops are_kinded_acts placed own_locals. told costing
        (goes_none costing.scope costing.lines costing.spots_are costing.pays costing.account site.place (here site open_loops)) refl (omega arith)
    flows_acts (act first others) = flow_act first others (flows_act first) (flows_acts others)

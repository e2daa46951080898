use Rattle.rw_base.proofs.Common.{arith, rules, ◌≡◌, ◌≤◌, ◌++◌, ◌∷◌, ◌+◌, ◌-◌, [], ap, ap₂, drop, length, map, sym, ◌∙◌, Err, common_steps, refl}
use Rattle.rw_base.proofs.Common.{length-map, map-append, take_all}
use Rattle.std.proofs.lemmas.List.{append-nil, append_assoc, length-append, length-drop}
use Rattle.rpl_budget.specs.Pass.{and_priced, declared_budget, passed_from}
use Rattle.rpl_budget.specs.Seen.{budget_seen}
use Rattle.rpl_budget.proofs.Declared.{all_passed}
use Rattle.rpl_tree.specs.Seen.{declared_of}
use Rattle.rpl_types.specs.Declarations.{node_refusal}
use Rattle.rpl_types.specs.Judged.{type_refusal, with_budget}
use Rattle.rpl_types.specs.Seen.{callable_of}
use Rattle.rpl_types.proofs.Counting.{its_next, none_left}
use Rattle.rpl_types.proofs.InTurn.{goes_on, none_found, stops}
use Rattle.rpl_types.proofs.declarations.types_of_all.Goals as goal

pub loop-place-init : goal.loop-place-init
loop-place-init c =
    let rules = map declared_of c.args.declarations.now in
    record {
      types = rw (c.new-all.ensures.items, c.new-earlier.ensures) (sym (none_found _));
      costs = rw (c.requires.none, c.in_ok-turn.ensures.ok) (all_passed rules);
      many = rw c.requires.none refl;
    }

pub returns-in-Err-clause-types : goal.returns-in-Err-clause-types
returns-in-Err-clause-types c = (
  λ why tells.
      let l = c.loop-place in
      let declarations = c.args.declarations.now in
      let rules = map declared_of declarations in
      let d = declared_of c.index-declarations-place.result in
      let mine = declared_budget l.turn d in
      let told = c.fault_at.ensures.told why tells in
      let mapped = length-map declarations declared_of in
      let low = c.loop-place-test.true in
      let step : drop l.place declarations ≡ c.index-declarations-place.result ∷ drop (l.place + 1) declarations =
      grind (arith, common_steps, c.index-declarations-place.is) in
      let its =
      its_next (map budget_seen l.costs.items) rules l.place mine (passed_from (and_priced l.turn d) (map declared_of (drop (l.place + 1) declarations)))
      (omega (arith, low, mapped)) l.invariant.many
      (ap (λ ds. map budget_seen l.costs.items ++ passed_from l.turn (map declared_of ds)) (sym step) ∙ l.invariant.costs) in
      let rest = take_all (length declarations - l.place) (drop l.place declarations) (omega (arith, length-drop l.place declarations)) in
      let known = ap (λ later. with_budget c.args.basin.now (callable_of l.earlier later) mine d) (sym rest) in
      stops c.args.basin.now rules (l.place + 1) l.earlier d
      (map declared_of (drop (l.place + 1) declarations)) (map declared_of (drop l.place declarations)) mine _ _
      (ap (map declared_of) step) its l.invariant.types why.kind why.node (known ∙ c.in-Err.ensures.types.0 (node_refusal why.kind why.node) told.1)
      ∙ ap (λ k. Err (type_refusal why.kind k why.node)) (sym told.0),
  c.fault_at.ensures.memory,
)

pub loop-place-preserved : goal.loop-place-preserved
loop-place-preserved c =
    let l = c.loop-place in
    let declarations = c.args.declarations.now in
    let rules = map declared_of declarations in
    let d = declared_of c.index-declarations-place.result in
    let mine = declared_budget l.turn d in
    let behind = map declared_of (drop (l.place + 1) declarations) in
    let mapped = length-map declarations declared_of in
    let low = c.loop-place-test.true in
    let step : drop l.place declarations ≡ c.index-declarations-place.result ∷ drop (l.place + 1) declarations =
    grind (arith, common_steps, c.index-declarations-place.is) in
    let all = ap (λ ds. map budget_seen l.costs.items ++ passed_from l.turn (map declared_of ds)) (sym step) ∙ l.invariant.costs in
    let its =
    its_next (map budget_seen l.costs.items) rules l.place mine (passed_from (and_priced l.turn d) behind) (omega (arith, low, mapped))
    l.invariant.many all in
    let rest = take_all (length declarations - l.place) (drop l.place declarations) (omega (arith, length-drop l.place declarations)) in
    let known = ap (λ later. with_budget c.args.basin.now (callable_of l.earlier later) mine d) (sym rest) in
    let longer = ap length c.in-Ok.ensures.costs in
    let sum = length-append (map budget_seen l.costs.items) (mine ∷ []) in
    record {
      types =
          goes_on c.args.basin.now rules (l.place + 1) l.earlier d behind (map declared_of (drop l.place declarations)) mine _ _
          (ap (map declared_of) step) its l.invariant.types c.in-Ok.types.items (known ∙ c.in-Ok.ensures.types) _
          (ap (map (λ types. types.items)) c.in-Ok-push.ensures.items ∙ map-append (λ types. types.items) l.all.items (c.in-Ok.types ∷ []))
          _ c.in-Ok-add_function.ensures.ok _ refl;
      costs =
          ap₂ (λ costs turn. costs ++ passed_from turn behind) c.in-Ok.ensures.costs c.in-Ok.ensures.turn
          ∙ append_assoc (map budget_seen l.costs.items) (mine ∷ []) (passed_from (and_priced l.turn d) behind) ∙ all;
      many = omega (arith, longer, sum, l.invariant.many);
    }

pub returns-clause-costs : goal.returns-clause-costs
returns-clause-costs c =
    let l = c.loop-place in
    let declarations = c.args.declarations.now in
    let dropped = length-drop l.place declarations in
    let most : length declarations ≤ l.place = search (rules, arith) in
    let empty : drop l.place declarations ≡ [] = none_left _ (omega (arith, dropped, most)) in
    sym (append-nil (map budget_seen l.costs.items))
    ∙ ap (λ ds. map budget_seen l.costs.items ++ passed_from l.turn (map declared_of ds)) (sym empty)
    ∙ l.invariant.costs

use Rattle.std.proofs.Common.{◌≡◌, ◌+◌, ◌-◌, ◌<◌, IfOk, ap, ap₂, sym, subst, ◌∙◌, arith, drop, length}
use Rattle.rpl_tree.proofs.Common.{tree_of, trees_in, Tree, call, tree_of_call}
use Rattle.rpl_budget.specs.Pass.{argument, pass, pass_arguments}
use Rattle.rpl_budget.specs.Seen.{tree_kinds_seen, measured_seen, names_of}
use Rattle.rpl_budget.proofs.Rows.{arguments_on}
use Rattle.rpl_budget.proofs.pass.+pass.Goals as goal

pub arguments-loop-k-preserved : goal.arguments-loop-k-preserved
arguments-loop-k-preserved t c =
    let functions = c.args.known.now in
    let names = names_of c.args.names.now in
    let k = c.loop-k.k - 1 in
    let next : c.loop-k.k ≡ k + 1 = omega (arith, c.loop-k-test.true) in
    let within : k < length c.args.args.now = omega (arith, c.loop-k-test.true, c.loop-k.invariant.within) in
    let value = measured_seen c.in_ok-value.value in
    let found = c.in_ok-value.ensures.found ∙ ap (λ ns. pass functions (names_of ns) (tree_of c.index-args-k.result)) c.loop-k.invariant.same in
    let behind =
    c.loop-k.invariant.found ∙ ap (λ n. pass_arguments functions names (tree_kinds_seen (drop n c.args.takes.now))
    (trees_in (drop n c.args.args.now))) next in
    record {
      found = c.argument-others.ensures ∙ ap (λ kinds. argument (tree_kinds_seen kinds) value c.loop-k.others) c.from_place.ensures
          ∙ arguments_on functions names c.args.takes.now c.args.args.now k c.index-args-k.result value c.loop-k.others within c.index-args-k.is
          found behind;
      same = c.in_ok-value.ensures.names ∙ c.loop-k.invariant.same;
      within = omega (arith, within);
    }

pub pass-returns-in-Call-clause-found : goal.pass-returns-in-Call-clause-found
pass-returns-in-Call-clause-found t c =
    let read = ap₂ (λ f es. call f (trees_in es)) c.deref-in-Call.ensures.value c.deref-in-Call-2.ensures.value in
    subst (λ (tree : Tree). IfOk c.call.result (λ work. measured_seen work ≡ pass c.args.known.now (names_of c.args.names.now) tree))
    (read ∙ sym (tree_of_call c.in-Call.name c.in-Call.args) ∙ ap tree_of (sym c.in-Call.is)) c.call.ensures.found

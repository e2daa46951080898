use Rattle.rpl_compile.proofs.Common.{callees_of, map, parameter_of, tree_of, written_function, ◌∙◌}
use Rattle.rpl_compile.proofs.ruleset.block_of.Goals as goal

pub returns-in_ok-push-in-Function-clause-block : goal.returns-in_ok-push-in-Function-clause-block
returns-in_ok-push-in-Function-clause-block c =
    rw c.in-Function.is
    (c.in_ok-block-in-Function.ensures
    ∙ (λ i. written_function (callees_of (c.deref-in-Function.ensures.value i)) (map parameter_of (c.deref-in-Function-2.ensures.value i))
    (c.written_kind-result.ensures i) (tree_of c.in-Function.body)))

use Rattle.rw_base.proofs.Common.{arith, ◌≡◌, ◌∷◌, ◌+◌, [], ap, drop, map, ◌∙◌, common_steps}
use Rattle.rpl_tree.specs.Seen.{parameter_of}
use Rattle.rpl_types.specs.Fits.{sooner}
use Rattle.rpl_types.proofs.Heading.{head_last, head_next}
use Rattle.rpl_types.proofs.heads.head_misfit.Goals as goal

pub loop-param-preserved : goal.loop-param-preserved
loop-param-preserved c =
    let at = c.loop-param.param-index in
    let step : drop at c.args.params.now ≡ c.param-item.result ∷ drop (at + 1) c.args.params.now = grind (arith, common_steps, c.param-item.is) in
    rw (c.sooner-found.ensures, c.type_misfit.ensures)
    (head_next _ c.loop-param.found _ (parameter_of c.param-item.result) _ _ (ap (map parameter_of) step) c.loop-param.invariant)

pub returns : goal.returns
returns c =
    let none : drop c.loop-param.param-index c.args.params.now ≡ [] = grind (arith, common_steps) in
    c.sooner.ensures ∙ ap (sooner c.loop-param.found) c.type_misfit-2.ensures
    ∙ head_last _ c.loop-param.found _ _ (ap (map parameter_of) none) c.loop-param.invariant

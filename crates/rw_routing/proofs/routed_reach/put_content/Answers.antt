use Rattle.rw_base.proofs.Common.{◌+ℤ◌, ◌-ℤ◌, ◌≡◌, ◌∙◌, refl, arith, ints, rules, false, [], FitsSigned, w128, to_z-of_z}
use Rattle.rw_method.specs.Balance.{content_before}
use Rattle.rw_method.specs.Puts.{put, is_bounded}
use Rattle.rw_method.proofs.PutFacts.{misfit_judged}
use Rattle.rw_routing.proofs.routed_reach.put_content.Goals as goal

pub returns-in-Err-add_put : goal.returns-in-Err-add_put
returns-in-Err-add_put c =
    let fits : FitsSigned w128 c.left-left.result = search rules in
    let ended = simp (to_z-of_z w128 _ fits) at c.in-Err-add_put.ensures.err in
    let accepted = simp (to_z-of_z w128 _ fits) at c.in-Err-add_put.ensures.fits in
    let misfit : is_bounded c.args.view.now (put 2 c.left-left.result c.known_after-outflow.result.number) ≡ false = grind (arith, accepted) in
    let is : c.left-left.result ≡ content_before c.args.view.now +ℤ c.known_after-inflow.result.value -ℤ c.known_after-outflow.result.value =
    omega (arith, ints) in
    rw (c.in-Ok.ensures.open refl (is_bounded c.args.view.now) _)
    rw (← c.known_after-inflow.ensures, ← c.known_after-outflow.ensures, ← is)
    (ended ∙ misfit_judged (is_bounded c.args.view.now) _ _ [] (c.in-Ok.ensures.fits refl) misfit)

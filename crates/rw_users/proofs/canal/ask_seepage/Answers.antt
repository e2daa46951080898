use Rattle.rw_base.proofs.Common.{◌≡◌, ◌∙◌, refl, arith, rules, false, [], FitsSigned, w128, to_z-of_z}
use Rattle.rw_method.specs.Puts.{put, is_bounded}
use Rattle.rw_method.proofs.PutFacts.{misfit_judged}
use Rattle.rw_users.proofs.canal.ask_seepage.Goals as goal

pub returns-in-Err-add_put : goal.returns-in-Err-add_put
returns-in-Err-add_put c =
    let fits : FitsSigned w128 c.seeping-seeping.result = search rules in
    let ended = simp (to_z-of_z w128 _ fits) at c.in-Err-add_put.ensures.err in
    let accepted = simp (to_z-of_z w128 _ fits) at c.in-Err-add_put.ensures.fits in
    let misfit : is_bounded c.args.view.now (put 2 c.seeping-seeping.result c.known_after-inflow.result.number) ≡ false = grind (arith, accepted) in
    rw (c.in_default.ensures.open refl (is_bounded c.args.view.now) _)
    rw (← c.known_after-inflow.ensures, ← c.known_after-outflow.ensures, ← c.seeping-seeping.ensures)
    (ended ∙ misfit_judged (is_bounded c.args.view.now) _ _ [] (c.in_default.ensures.fits refl) misfit)

use Rattle.rw_base.proofs.Common.{◌≡◌, ◌∙◌, refl, arith, rules, true, false, FitsSigned, w128, to_z-of_z}
use Rattle.rw_method.specs.Puts.{put, is_bounded}
use Rattle.rw_method.proofs.PutFacts.{misfit_judged, second_misfit_judged}
use Rattle.rw_users.proofs.water_user.ask_uses.Goals as goal

pub returns-in-Err-add_put : goal.returns-in-Err-add_put
returns-in-Err-add_put c =
    let fits : FitsSigned w128 c.used_up-used.result = search rules in
    let ended = simp (to_z-of_z w128 _ fits) at c.in-Err-add_put.ensures.err in
    let accepted = simp (to_z-of_z w128 _ fits) at c.in-Err-add_put.ensures.fits in
    let misfit : is_bounded c.args.view.now (put 2 c.used_up-used.result c.known_after-diversion.result.number) ≡ false = grind (arith, accepted) in
    rw (c.in_default.ensures.open refl (is_bounded c.args.view.now) _)
    rw (← c.known_after-diversion.ensures, ← c.used_up-used.ensures.amount)
    (ended ∙ misfit_judged (is_bounded c.args.view.now) _ _ _ (c.in_default.ensures.fits refl) misfit)

pub returns-in-Err-add_put-2 : goal.returns-in-Err-add_put-2
returns-in-Err-add_put-2 c =
    let used_fits : FitsSigned w128 c.used_up-used.result = search rules in
    let back_fits : FitsSigned w128 c.flowing_back-back.result = search rules in
    let first = simp (to_z-of_z w128 _ used_fits) at c.in_default-add_put.ensures.fits in
    let fit : is_bounded c.args.view.now (put 2 c.used_up-used.result c.known_after-diversion.result.number) ≡ true = grind (arith, first) in
    let ended = simp (to_z-of_z w128 _ back_fits) at c.in-Err-add_put-2.ensures.err in
    let accepted = simp (to_z-of_z w128 _ back_fits) at c.in-Err-add_put-2.ensures.fits in
    let misfit : is_bounded c.args.view.now (put 3 c.flowing_back-back.result c.known_after-diversion.result.number) ≡ false =
    grind (arith, accepted) in
    let back = simp (to_z-of_z w128 _ used_fits) at c.flowing_back-back.ensures in
    rw (c.in_default.ensures.open refl (is_bounded c.args.view.now) _)
    rw (← c.known_after-diversion.ensures, ← c.used_up-used.ensures.amount, ← back)
    (ended ∙ second_misfit_judged (is_bounded c.args.view.now) _ _ _ _ (c.in_default.ensures.fits refl) fit misfit)

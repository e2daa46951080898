use Rattle.rw_base.proofs.Common.{arith, ◌≡◌, ◌∷◌, ◌+◌, drop, common_steps}
use Rattle.rpl_types.proofs.Sooner.{among_next}
use Rattle.rpl_types.proofs.calls.misfit_among.Goals as goal

pub loop-t-preserved : goal.loop-t-preserved
loop-t-preserved c =
    let at = c.loop-t.t-index in
    let step : drop at c.args.given.now ≡ c.t-item.result ∷ drop (at + 1) c.args.given.now = grind (arith, common_steps, c.t-item.is) in
    rw (c.sooner-found.ensures, c.misfit.ensures)
    (among_next _ c.loop-t.found c.args.asked.now c.t-item.result _ _ step c.loop-t.invariant)

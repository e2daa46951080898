use Rattle.rw_base.proofs.Common.{arith, ◌≡◌, ◌∷◌, ◌+◌, drop, common_steps}
use Rattle.rpl_types.proofs.Sooner.{places_next}
use Rattle.rpl_types.proofs.calls.misfit_in_places.Goals as goal

pub loop-k-preserved : goal.loop-k-preserved
loop-k-preserved c =
    let k = c.loop-k.k in
    let given : drop k c.args.given.now ≡ c.index-given-k.result ∷ drop (k + 1) c.args.given.now = grind (arith, common_steps, c.index-given-k.is) in
    let asked : drop k c.args.asked.now ≡ c.index-asked-k.result ∷ drop (k + 1) c.args.asked.now = grind (arith, common_steps, c.index-asked-k.is) in
    rw (c.sooner-found.ensures, c.misfit.ensures)
    (places_next _ c.loop-k.found c.index-given-k.result c.index-asked-k.result _ _ _ _ given asked c.loop-k.invariant)

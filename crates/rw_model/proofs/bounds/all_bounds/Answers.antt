use Rattle.rw_base.proofs.Common.{◌≡◌, ◌+◌, ◌∷◌, [], ◌++◌, ap, sym, ◌∙◌, arith, map, range_with_len, map-range_with_len_more}
use Rattle.rw_model.specs.Links.{bounds_in}
use Rattle.rw_model.proofs.bounds.all_bounds.Goals as goal

pub loop-before-preserved : goal.loop-before-preserved
loop-before-preserved c =
    let next : 1 + c.loop-before.before ≡ c.loop-before.before + 1 = omega arith in
    let f = bounds_in c.args.objects.now c.args.links.now c.args.own.now in
    c.in_ok-push.ensures.items
    ∙ ap (λ bs. bs ++ c.bounds_in.result ∷ []) c.loop-before.invariant
    ∙ ap (λ b. map f (range_with_len 1 c.loop-before.before) ++ b ∷ []) c.bounds_in.ensures
    ∙ sym (map-range_with_len_more f 1 c.loop-before.before (c.loop-before.before + 1) next)

use Rattle.rw_record.proofs.Common.{ap, get_or_from_slice_get, slice_get_within, subst, sym, take, take_all, take_more, ◌++◌, ◌∙◌, ◌∷◌, [], ◌≤◌}
use Rattle.rw_record.proofs.record.spread.Goals as goal

pub loop-place-preserved : goal.loop-place-preserved
loop-place-preserved c =
    let all = c.args.list.now in
    let at = c.loop-place.place in
    let one = c.get-one.result in
    c.in_ok-push.ensures.items ∙ ap (λ items. items ++ one ∷ []) c.loop-place.invariant
    ∙ ap (λ last. take at all ++ last ∷ []) (sym (get_or_from_slice_get all at one one c.get-one.ensures))
    ∙ sym (take_more all at one (slice_get_within all at one c.get-one.ensures))

pub returns : goal.returns
returns c =
    c.loop-place.invariant
    ∙ take_all c.loop-place.place c.args.list.now (subst (λ n. n ≤ c.loop-place.place) c.len-place-end.ensures c.loop-place-test.false)

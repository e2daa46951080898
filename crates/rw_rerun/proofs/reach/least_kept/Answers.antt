use Rattle.rw_base.proofs.Common.{arith, length, refl}
use Rattle.std.proofs.lemmas.Option.{slice_get_read}
use Rattle.rw_rerun.proofs.Reaching.{all_kept, one_kept}
use Rattle.rw_rerun.proofs.reach.least_kept.Goals as goal

pub loop-place-init : goal.loop-place-init
loop-place-init c = λ place entry after near there. absurd (let same = c.from-place.ensures in omega (arith, after, near, same))

pub loop-place-preserved : goal.loop-place-preserved
loop-place-preserved c =
    let at = c.loop-place.place in
    let one = c.index-kept-place.result in
    one_kept c.args.kept.now c.args.behind at c.loop-place.least c.lesser-least.result one
    (slice_get_read c.args.kept.now (length c.args.kept.now) at one refl c.loop-place-test.true c.index-kept-place.is)
    c.lesser-least.ensures.0 c.least_in.result c.lesser-least.ensures.1 c.least_in.ensures c.loop-place.invariant

pub returns : goal.returns
returns c =
    let done = c.loop-place-test.false in
    all_kept c.args.kept.now c.args.behind c.loop-place.place c.loop-place.least (omega (arith, done)) c.loop-place.invariant

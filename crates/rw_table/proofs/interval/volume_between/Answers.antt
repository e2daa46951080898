use Rattle.rw_base.proofs.Common.{◌≡◌, pos, ◌+ℤ◌, ◌-ℤ◌, to_z, of_z, w64, sym, ap, ◌∙◌, arith, ints, to_z-of_z}
use Rattle.rw_table.proofs.Line.{between-is}
use Rattle.rw_table.proofs.interval.volume_between.Goals as goal

pub overflow_cast-result : goal.overflow_cast-result
overflow_cast-result c = omega (arith, ints)

pub overflow_add-result : goal.overflow_add-result
overflow_add-result c = omega (arith, ints)

pub returns : goal.returns
returns c =
    let low = c.args.low in
    let gained = c.share-gained.result in
    let along : c.args.e -ℤ low.0 ≡ pos c.distance-along.result = omega (arith, ints) in
    let rise : c.args.high.1 -ℤ low.1 ≡ pos c.distance-rise.result = omega (arith, ints) in
    let run : c.args.high.0 -ℤ low.0 ≡ pos c.distance-run.result = omega (arith, ints) in
    let is = between-is low c.args.high c.args.e _ _ _ along rise run in
    let sum : to_z w64 (of_z w64 low.1) +ℤ to_z w64 gained ≡ low.1 +ℤ pos gained = omega (arith, ints) in
    to_z-of_z w64 _ (overflow_add-result c) ∙ (sum ∙ (ap (λ n. low.1 +ℤ pos n) c.share-gained.ensures.share ∙ sym is))

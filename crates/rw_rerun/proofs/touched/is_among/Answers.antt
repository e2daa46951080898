use Rattle.rw_base.proofs.Common.{arith, sym}
use Rattle.std.proofs.lemmas.Option.{slice_get_past}
use Rattle.rw_rerun.proofs.Order.{found_there, nothing_there}
use Rattle.rw_rerun.proofs.touched.is_among.Goals as goal

pub returns-then-place-len : goal.returns-then-place-len
returns-then-place-len c =
    found_there c.args.looked.now c.args.cell c.below-place.result c.requires c.below-place.ensures c.get.result c.get.ensures c.is_same.result
    (sym c.is_same.ensures)

pub returns : goal.returns
returns c =
    let far = c.if-place-len.false in
    let many = c.len.ensures in
    nothing_there c.args.looked.now c.args.cell c.below-place.result c.requires c.below-place.ensures
    (slice_get_past c.args.looked.now c.below-place.result (omega (arith, far, many)))

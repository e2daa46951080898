use Rattle.rw_base.proofs.Common.{FitsSigned, arith, ints, to_z-of_z, w64, ◌∙◌}
use Rattle.rw_power.proofs.Parts.{solved_as}
use Rattle.rw_power.proofs.power_reservoir.solve_power.Goals as goal

pub returns-in-Ok : goal.returns-in-Ok
returns-in-Ok c initial_storage =
    let bound = c.head_of-head.ensures.bound in
    let fits : FitsSigned w64 c.head_of-head.result = omega (arith, ints, bound.low, bound.high) in
    let ok = rw (to_z-of_z w64 c.args.max_release c.ranges.max_release, to_z-of_z w64 c.args.tailwater c.ranges.tailwater) at c.in-Ok.ensures.ok in
    let fine =
    rw (to_z-of_z w64 c.args.max_release c.ranges.max_release, to_z-of_z w64 c.args.tailwater c.ranges.tailwater) at c.in-Ok.ensures.fine in
    let fall = rw (to_z-of_z w64 c.args.tailwater c.ranges.tailwater) at c.head_of-head.ensures.fall in
    let answered =
    rw (to_z-of_z w64 c.args.max_release c.ranges.max_release, to_z-of_z w64 c.head_of-head.result fits) at
    (c.answer_asked.ensures c.args.tailwater) in
    answered fall ok ∙ solved_as initial_storage c.args.rating.now c.args.max_release c.args.tailwater c.args.power c.args.view.now fine

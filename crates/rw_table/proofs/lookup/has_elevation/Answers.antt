use Rattle.rw_table.proofs.Common.{FitsSigned, arith, first_row, ints, last_row, length, to_z-of_z, w64, ◌-◌, ◌≤ℤ◌}
use Rattle.rw_table.proofs.Elevation.{some_up_to}
use Rattle.rw_table.proofs.lookup.has_elevation.Goals as goal

pub returns-then-rows-s : goal.returns-then-rows-s
returns-then-rows-s c =
    let rows = c.args.rows.now in
    let first = (c.requires.good 0 (omega (arith, c.requires.some))).bounds in
    let last = (c.requires.good (length rows - 1) (omega (arith, c.requires.some))).bounds in
    let fits : FitsSigned w64 (last_row rows).1 = omega (arith, ints, last.empty, last.fullest) in
    let from : (first_row rows).1 ≤ℤ c.args.s = omega (arith, ints, first.empty, first.fullest) in
    rw (to_z-of_z w64 c.args.s c.ranges.s, to_z-of_z w64 (last_row rows).1 fits) (some_up_to rows c.args.s c.requires from)

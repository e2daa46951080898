use Rattle.rw_table.proofs.Common.{Some, ap, arith, ints, row_at, rules, sym, to_z-of_z, w64, ◌-◌, ◌<ℤ◌, ◌∙◌, ◌≤ℤ◌}
use Rattle.rw_table.proofs.Elevation.{line_elevation}
use Rattle.rw_table.proofs.lookup.elevation_near.Goals as goal

pub returns-then-s-rows : goal.returns-then-s-rows
returns-then-s-rows c =
    let rows = c.args.rows.now in
    let place = c.args.place in
    let low = (c.requires.good (place - 1) (omega arith)).bounds in
    let high = (c.requires.good place c.if-place-rows.true).bounds in
    let from : (row_at rows (place - 1)).1 ≤ℤ c.args.s = omega (arith, ints, low.empty, low.fullest) in
    let to : c.args.s <ℤ (row_at rows place).1 = omega (arith, ints, high.empty, high.fullest) in
    ap Some (to_z-of_z w64 _ (search rules))
    ∙ sym (line_elevation rows place c.args.s _ c.requires (omega arith) c.if-place-rows.true from to
    (rw (to_z-of_z w64 c.args.s c.ranges.s) at c.elevation_between.ensures))

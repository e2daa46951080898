use Rattle.rw_table.proofs.Common.{Some, ap, arith, ints, row_at, rules, sym, to_z-of_z, w64, ◌-◌, ◌<ℤ◌, ◌∙◌, ◌≤ℤ◌}
use Rattle.rw_table.proofs.Volume.{line_volume}
use Rattle.rw_table.proofs.lookup.volume_near.Goals as goal

pub returns-then-e-rows : goal.returns-then-e-rows
returns-then-e-rows c =
    let rows = c.args.rows.now in
    let place = c.args.place in
    let low = (c.requires.good (place - 1) (omega arith)).bounds in
    let high = (c.requires.good place c.if-place-rows.true).bounds in
    let from : (row_at rows (place - 1)).0 ≤ℤ c.args.e = omega (arith, ints, low.lowest, low.highest) in
    let to : c.args.e <ℤ (row_at rows place).0 = omega (arith, ints, high.lowest, high.highest) in
    ap Some (to_z-of_z w64 _ (search rules) ∙ (rw (to_z-of_z w64 c.args.e c.ranges.e) at c.volume_between.ensures))
    ∙ sym (line_volume rows place c.args.e c.requires (omega arith) c.if-place-rows.true from to)

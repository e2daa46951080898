use Rattle.rw_table.proofs.Common.{FitsSigned, Some, ap, arith, inl, inr, ints, length, of_z, pos, row_at, rules, sym, to_z-of_z, w64, ◌-◌, ◌<ℤ◌, ◌<◌}
use Rattle.rw_table.proofs.Common.{◌∙◌, ◌≡◌}
use Rattle.rw_table.proofs.Elevation.{line_elevation, last_elevation, elevation_after}
use Rattle.rw_table.proofs.Comparison.{below_or_not}
use Rattle.rw_table.proofs.lookup.elevation_at.Goals as goal

pub returns-then-place-rows : goal.returns-then-place-rows
returns-then-place-rows c =
    let place = c.rows_up_to_volume-place.result in
    let point = c.rows_up_to_volume-place.ensures.place in
    let same = to_z-of_z w64 c.args.s c.ranges.s in
    let from = rw same at (point.0 (place - 1) (pos 0, pos 0) (omega arith) (omega arith)) in
    let to = rw same at (point.1 place (pos 0, pos 0) (omega arith) c.if-place-rows.true) in
    ap Some (to_z-of_z w64 _ (search rules))
    ∙ sym (line_elevation c.args.rows.now place c.args.s _ c.requires (omega arith) c.if-place-rows.true from to
    (rw same at c.elevation_between.ensures))

pub returns-then-low-s : goal.returns-then-low-s
returns-then-low-s c =
    let rows = c.args.rows.now in
    let place = c.rows_up_to_volume-place.result in
    let within : place - 1 < length rows = omega (arith, c.requires.some) in
    let whole : place ≡ length rows = omega arith in
    let bounds = (c.requires.good (place - 1) within).bounds in
    let is : c.args.s ≡ (row_at rows (place - 1)).1 = omega (arith, ints) in
    let fits : FitsSigned w64 (row_at rows (place - 1)).0 = omega (arith, ints) in
    ap Some (to_z-of_z w64 _ fits) ∙ sym (rw whole (last_elevation rows c.args.s c.requires (rw whole at is)))

pub returns : goal.returns
returns c =
    let rows = c.args.rows.now in
    let s = c.args.s in
    let place = c.rows_up_to_volume-place.result in
    let from =
    rw (to_z-of_z w64 s c.ranges.s) at (c.rows_up_to_volume-place.ensures.place.0 (place - 1) (pos 0, pos 0) (omega arith)
    (omega (arith, c.requires.some))) in
    let whole : place ≡ length rows = omega arith in
    let past : (row_at rows (place - 1)).1 <ℤ s = elim (below_or_not (row_at rows (place - 1)).1 s) [
      | inl past ↦ past
      | inr up_to ↦
          let same : (row_at rows (place - 1)).1 ≡ s = omega (arith, ints) in
          absurd (c.if-low-s.false (ap (of_z w64) same))
    ] in
    sym (elevation_after rows s (rw whole at past))

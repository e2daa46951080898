use Rattle.rw_table.proofs.Common.{FitsSigned, Some, ap, arith, inl, inr, ints, length, of_z, pos, row_at, rules, sym, to_z-of_z, w64, ◌-◌, ◌<ℤ◌, ◌<◌}
use Rattle.rw_table.proofs.Common.{◌∙◌, ◌≡◌}
use Rattle.rw_table.proofs.Comparison.{below_or_not}
use Rattle.rw_table.proofs.Volume.{volume_before, volume_after, line_volume, volume_of_row}
use Rattle.rw_table.proofs.lookup.volume_at.Goals as goal

pub returns-then-place-eq0 : goal.returns-then-place-eq0
returns-then-place-eq0 c =
    let first = c.rows_up_to_elevation-place.ensures.place.1 0 (pos 0, pos 0) (omega arith) (omega (arith, c.requires.some)) in
    sym (volume_before c.args.rows.now c.args.e c.requires (omega (arith, ints, first)))

pub returns-then-place-rows : goal.returns-then-place-rows
returns-then-place-rows c =
    let place = c.rows_up_to_elevation-place.result in
    let point = c.rows_up_to_elevation-place.ensures.place in
    let same = to_z-of_z w64 c.args.e c.ranges.e in
    let from = rw same at (point.0 (place - 1) (pos 0, pos 0) (omega arith) (omega arith)) in
    let to = rw same at (point.1 place (pos 0, pos 0) (omega arith) c.if-place-rows.true) in
    ap Some (to_z-of_z w64 _ (search rules) ∙ (rw same at c.volume_between.ensures))
    ∙ sym (line_volume c.args.rows.now place c.args.e c.requires (omega arith) c.if-place-rows.true from to)

pub returns-then-low-e : goal.returns-then-low-e
returns-then-low-e c =
    let rows = c.args.rows.now in
    let place = c.rows_up_to_elevation-place.result in
    let within : place - 1 < length rows = omega (arith, c.requires.some) in
    let bounds = (c.requires.good (place - 1) within).bounds in
    let is : (row_at rows (place - 1)).0 ≡ c.args.e = omega (arith, ints) in
    let fits : FitsSigned w64 (row_at rows (place - 1)).1 = omega (arith, ints) in
    ap Some (to_z-of_z w64 _ fits) ∙ sym (rw (← is) (volume_of_row rows (place - 1) c.requires within))

pub returns : goal.returns
returns c =
    let rows = c.args.rows.now in
    let e = c.args.e in
    let place = c.rows_up_to_elevation-place.result in
    let from =
    rw (to_z-of_z w64 e c.ranges.e) at (c.rows_up_to_elevation-place.ensures.place.0 (place - 1) (pos 0, pos 0) (omega arith)
    (omega (arith, c.requires.some))) in
    let whole : place ≡ length rows = omega arith in
    let past : (row_at rows (place - 1)).0 <ℤ e = elim (below_or_not (row_at rows (place - 1)).0 e) [
      | inl past ↦ past
      | inr up_to ↦
          let same : (row_at rows (place - 1)).0 ≡ e = omega (arith, ints) in
          absurd (c.if-low-e.false (ap (of_z w64) same))
    ] in
    sym (volume_after rows e c.requires (rw whole at past))

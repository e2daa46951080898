-- The elevation at a volume in a table: the count finds the greatest, and so does the last on the line of the interval.
use Rattle.rw_table.proofs.Common.{IsAtMost, IsElevationInside, IsGreatest, IsLastOnLine, IsTable, IsVolumeInside, List, None, Option, Row, Some, ap}
use Rattle.std.specs.Prelude.{is_some}
use Rattle.rw_table.proofs.Common.{arith, elev_of, first_row, greatest_up_to, inl, inr, int_le, ints, last_row, length, negsuc, pos, refl, row_at, suc, sym}
use Rattle.rw_table.proofs.Common.{unsigned_abs, vol_of, zero, ℕ, ℤ, ◌+ℤ◌, ◌-◌, ◌<ℤ◌, ◌<◌, ◌∙◌, ◌≡◌, ◌≤ℤ◌}
use Rattle.rw_table.proofs.Comparison.{below_or_not, le_passes, le_fails}
use Rattle.rw_table.proofs.Order.{no_less}
use Rattle.rw_table.proofs.Volume.{inside, volume_of_row, volume_on_line, never_falls}
use Rattle.rw_table.proofs.Count.{volume_at_most, at_most_from, IsCounted, Counts, counted}

-- an elevation of a table is a natural number, which the count meets
natural_inside : (rows : List Row) (e : ℤ) → IsTable rows → IsElevationInside rows e
    → (k : ℕ) × (e ≡ pos k) × (k < suc (unsigned_abs (last_row rows).0))
natural_inside rows (pos k) table within =
    let to : pos k ≤ℤ (last_row rows).0 = within.to_last in
    (k, refl, omega (arith, ints))
natural_inside rows (negsuc k) table within =
    let lowest = (table.good 0 (omega (arith, table.some))).bounds.lowest in
    absurd (omega (arith, ints, lowest, within.from_first))

-- what is counted is the greatest
pub counted_greatest : (rows : List Row) (s e : ℤ) → IsTable rows → IsCounted rows s (suc (unsigned_abs (last_row rows).0)) e → IsGreatest rows s e
counted_greatest rows s e table counts =
    let volume = volume_at_most (vol_of rows e) s counts.at_most in
    record {
      inside = inside rows e volume.0 table volume.1;
      at_most = counts.at_most;
      greatest = λ other at_most.
          let other_volume = volume_at_most (vol_of rows other) s at_most in
          let n = natural_inside rows other table (inside rows other other_volume.0 table other_volume.1) in
          let below = counts.greatest n.0 n.2 (rw n.1 at at_most) in
          let is = counts.is in
          omega (arith, ints);
    }

-- the first row is at most any volume of the table
first_at_most : (rows : List Row) (s : ℤ) → IsTable rows → IsVolumeInside rows s → IsAtMost rows (first_row rows).0 s
first_at_most rows s table held =
    at_most_from (vol_of rows (first_row rows).0) s _ (volume_of_row rows 0 table (omega (arith, table.some))) held.from_first

-- and its elevation is inside
first_inside : (rows : List Row) → IsTable rows → IsElevationInside rows (first_row rows).0
first_inside rows table =
    inside rows (first_row rows).0 (first_row rows).1 table (volume_of_row rows 0 table (omega (arith, table.some)))

-- inside the volumes the elevation is what the count finds
elev_counted : (rows : List Row) (s : ℤ) → IsVolumeInside rows s → elev_of rows s ≡ greatest_up_to rows s (unsigned_abs (last_row rows).0)
elev_counted rows s held =
    rw (le_passes (first_row rows).1 s held.from_first, le_passes s (last_row rows).1 held.to_last) refl

pub record HasGreatest (rows : List Row) (s : ℤ) (o : Option ℤ) : Type 0 where
  pub elevation : ℤ
  pub is : o ≡ Some elevation
  pub greatest : IsGreatest rows s elevation

-- the count finds one, since the first row is at most s
count_held : (rows : List Row) (s : ℤ) (o : Option ℤ) → IsTable rows → IsVolumeInside rows s → Counts rows s (suc (unsigned_abs (last_row rows).0)) o
    → HasGreatest rows s o
count_held rows s None table held none =
    let first = natural_inside rows (first_row rows).0 table (first_inside rows table) in
    absurd (none first.0 first.2 (rw first.1 at (first_at_most rows s table held)))
count_held rows s (Some e) table held some = record { elevation = e; is = refl; greatest = counted_greatest rows s e table some }

-- inside the volumes there is an elevation, and it is the greatest
pub elev_held : (rows : List Row) (s : ℤ) → IsTable rows → IsVolumeInside rows s → HasGreatest rows s (elev_of rows s)
elev_held rows s table held =
    rw (elev_counted rows s held) (count_held rows s _ table held (counted rows s (unsigned_abs (last_row rows).0)))

-- the greatest is one, so that it is the elevation
pub elev_is_greatest : (rows : List Row) (s e : ℤ) → IsTable rows → IsVolumeInside rows s → IsGreatest rows s e → elev_of rows s ≡ Some e
elev_is_greatest rows s e table held greatest =
    let has = elev_held rows s table held in
    let up = has.greatest.greatest e greatest.at_most in
    let down = greatest.greatest has.elevation has.greatest.at_most in
    let same : has.elevation ≡ e = omega (arith, ints) in
    has.is ∙ ap Some same

-- outside there is none
pub elev_outside : (rows : List Row) (s : ℤ) → ¬ IsVolumeInside rows s → elev_of rows s ≡ None
elev_outside rows s outside = elim (below_or_not s (first_row rows).1) [
  | inl before ↦ rw (le_fails (first_row rows).1 s before) refl
  | inr from ↦
      elim (below_or_not (last_row rows).1 s) [
        | inl past ↦ rw (le_passes (first_row rows).1 s from, le_fails s (last_row rows).1 past) refl
        | inr to ↦ absurd (outside (record { from_first = from; to_last = to }))
      ]
]

-- where the next elevation's volume is more than s, every later one's is
none_after : (rows : List Row) (s e next v : ℤ) → IsTable rows → next ≡ e +ℤ pos 1 → vol_of rows next ≡ Some v → s <ℤ v → (other : ℤ)
    → IsAtMost rows other s → other ≤ℤ e
none_after rows s e next v table is_next is more other at_most =
    let w = volume_at_most (vol_of rows other) s at_most in
    elim (below_or_not e other) [
      | inl past ↦
          let rise = never_falls rows next other v w.0 table (omega (arith, ints)) is w.1 in
          absurd (omega (arith, ints, w.2))
      | inr up_to ↦ up_to
    ]

-- an elevation at most s whose next one is more is the greatest
greatest_from : (rows : List Row) (s e next u v : ℤ) → IsTable rows → vol_of rows e ≡ Some u → u ≤ℤ s → next ≡ e +ℤ pos 1 → vol_of rows next ≡ Some v
    → s <ℤ v → IsGreatest rows s e
greatest_from rows s e next u v table is less is_next next_is more = record {
  inside = inside rows e u table is;
  at_most = at_most_from (vol_of rows e) s u is less;
  greatest = none_after rows s e next v table is_next next_is more;
}

-- the last elevation on the line of an interval is the greatest of all
pub last_greatest : (rows : List Row) (k : ℕ) (s e : ℤ) → IsTable rows → suc k < length rows → s <ℤ (row_at rows (suc k)).1
    → IsLastOnLine (row_at rows k) (row_at rows (suc k)) s e → IsGreatest rows s e
last_greatest rows k s e table within less line =
    let at = volume_on_line rows k e table within line.from_low line.to_high in
    elim (below_or_not (e +ℤ pos 1) (row_at rows (suc k)).0) [
      | inl before ↦
          let next = volume_on_line rows k (e +ℤ pos 1) table within (omega (arith, ints, line.from_low)) before in
          greatest_from rows s e (e +ℤ pos 1) _ _ table at line.at_most refl next (line.last before)
      | inr end ↦
          let is_row : (row_at rows (suc k)).0 ≡ e +ℤ pos 1 = omega (arith, ints, line.to_high) in
          greatest_from rows s e _ _ _ table at line.at_most is_row (volume_of_row rows (suc k) table within) less
    ]

-- at the last volume it is the last elevation
pub row_greatest : (rows : List Row) (s : ℤ) → IsTable rows → s ≡ (last_row rows).1 → IsGreatest rows s (last_row rows).0
row_greatest rows s table same =
    let is = volume_of_row rows (length rows - 1) table (omega (arith, table.some)) in
    record {
      inside = inside rows (last_row rows).0 (last_row rows).1 table is;
      at_most = at_most_from (vol_of rows (last_row rows).0) s _ is (omega (arith, ints));
      greatest = λ other at_most.
          let w = volume_at_most (vol_of rows other) s at_most in
          (inside rows other w.0 table w.1).to_last;
    }

-- as the search finds it, at the number of rows that have no more
pub line_elevation : (rows : List Row) (place : ℕ) (s e : ℤ) → IsTable rows → 0 < place → place < length rows → (row_at rows (place - 1)).1 ≤ℤ s
    → s <ℤ (row_at rows place).1 → IsLastOnLine (row_at rows (place - 1)) (row_at rows place) s e → elev_of rows s ≡ Some e
line_elevation rows zero s e table some within from to line = absurd (omega arith)
line_elevation rows (suc k) s e table some within from to line =
    let back : suc k - 1 ≡ k = omega arith in
    let low = no_less rows table 0 k (omega arith) (omega arith) in
    let high = no_less rows table (suc k) (length rows - 1) (omega arith) (omega (arith, table.some)) in
    let reached : (row_at rows k).1 ≤ℤ s = rw back at from in
    elev_is_greatest rows s e table
    (record { from_first = omega (arith, ints); to_last = omega (arith, ints) })
    (last_greatest rows k s e table within to (rw back at line))

-- at the last volume it is the last elevation
pub last_elevation : (rows : List Row) (s : ℤ) → IsTable rows → s ≡ (last_row rows).1 → elev_of rows s ≡ Some (last_row rows).0
last_elevation rows s table same =
    let low = no_less rows table 0 (length rows - 1) (omega arith) (omega (arith, table.some)) in
    elev_is_greatest rows s _ table
    (record { from_first = omega (arith, ints); to_last = omega (arith, ints) })
    (row_greatest rows s table same)

-- above the last volume there is none
pub elevation_after : (rows : List Row) (s : ℤ) → (last_row rows).1 <ℤ s → elev_of rows s ≡ None
elevation_after rows s past = elev_outside rows s (λ within. omega (arith, ints, within.to_last))

-- from the first volume on there is one up to the last
pub some_up_to : (rows : List Row) (s : ℤ) → IsTable rows → (first_row rows).1 ≤ℤ s → int_le s (last_row rows).1 ≡ is_some (elev_of rows s)
some_up_to rows s table from = elim (below_or_not (last_row rows).1 s) [
  | inl past ↦ le_fails s (last_row rows).1 past ∙ sym (ap is_some (elevation_after rows s past))
  | inr to ↦
      let has = elev_held rows s table (record { from_first = from; to_last = to }) in
      le_passes s (last_row rows).1 to ∙ sym (ap is_some has.is)
]

-- A table gives what evaporates of a storage that has an elevation, at a rate that isn't below 0.
use Rattle.rw_method.proofs.Common.{IsElevationInside, IsTable, List, Row, Some, ap, ap₂, arith, cond_both}
use Rattle.rw_method.proofs.Common.{difference, elev_of, evaporated, first_row, has_volume_inside}
use Rattle.rw_method.proofs.Common.{int_lt, int_max, ints, option_and_then, pos}
use Rattle.rw_method.proofs.Common.{vol_of, ℤ, ◌-ℤ◌, ◌∙◌, ◌≡◌, ◌≤ℤ◌}
use Rattle.rw_table.proofs.Laws.{elevation_inside}

sunk_inside : (rows : List Row) (e rate : ℤ) → IsElevationInside rows e → pos 0 ≤ℤ rate
    → IsElevationInside rows (int_max (e -ℤ rate) (first_row rows).0)
sunk_inside rows e rate inside some =
    let low = inside.from_first in let high = inside.to_last in
    cond_both (int_lt (first_row rows).0 (e -ℤ rate)) (e -ℤ rate) (first_row rows).0 (λ z. IsElevationInside rows z)
    (λ more. record { from_first = grind (arith, ints, more); to_last = omega (arith, ints, high, some) })
    (λ less. record { from_first = omega (arith, ints); to_last = omega (arith, ints, low, high) })

pub table_gives : (rows : List Row) (storage rate e : ℤ) → IsTable rows → elev_of rows storage ≡ Some e → pos 0 ≤ℤ rate
    → (amount : ℤ) × (evaporated rows storage rate ≡ Some amount)
table_gives rows storage rate e table found some =
    let inside = elevation_inside rows storage e table found in
    let v = has_volume_inside rows e table inside in
    let w = has_volume_inside rows (int_max (e -ℤ rate) (first_row rows).0) table (sunk_inside rows e rate inside some) in (
      v.0 -ℤ w.0,
      ap (option_and_then (λ e. difference (vol_of rows e) (vol_of rows (int_max (e -ℤ rate) (first_row rows).0)))) found
          ∙ ap₂ (λ a b. difference a b) v.1 w.1,
    )

use Rattle.rw_table.specs.declared.fault.TheConstants.{ELEVATION_MAX}
use Rattle.rw_base.proofs.Common.{◌≤ℤ◌, ◌-◌, pos, ℤ, refl, arith, w64, length, FitsSigned, List, ints, to_z-of_z}
use Rattle.rw_table.specs.Table.{Row, IsTable}
use Rattle.rw_table.specs.Curve.{IsElevationInside}
use Rattle.rw_reservoir.proofs.evaporation.evaporated.Goals as goal

-- an elevation of a table is from 0 to 10^7 mm
record IsLength (e : ℤ) : Type 0 where
  low : pos 0 ≤ℤ e
  high : e ≤ℤ ELEVATION_MAX

bounded : (rows : List Row) (e : ℤ) → IsTable rows → IsElevationInside rows e → IsLength e
bounded rows e table inside =
    let first = (table.good 0 (omega (arith, table.some))).bounds in
    let last = (table.good (length rows - 1) (omega (arith, table.some))).bounds in
    record { low = omega (arith, ints, first.lowest, inside.from_first); high = omega (arith, ints, last.highest, inside.to_last) }

pub sunk-sunk-requires-clause-low : goal.sunk-sunk-requires-clause-low
sunk-sunk-requires-clause-low c =
    let is = bounded c.args.rating.now c.in-Some.elevation c.lowest.ensures.table (c.in-Some.ensures.inside c.in-Some.elevation refl) in
    let fits : FitsSigned w64 c.in-Some.elevation = omega (arith, ints, is.low, is.high) in
    rw (to_z-of_z w64 c.in-Some.elevation fits) is.low

pub sunk-sunk-requires-clause-high : goal.sunk-sunk-requires-clause-high
sunk-sunk-requires-clause-high c =
    let is = bounded c.args.rating.now c.in-Some.elevation c.lowest.ensures.table (c.in-Some.ensures.inside c.in-Some.elevation refl) in
    let fits : FitsSigned w64 c.in-Some.elevation = omega (arith, ints, is.low, is.high) in
    rw (to_z-of_z w64 c.in-Some.elevation fits) is.high

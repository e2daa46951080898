use Rattle.rw_base.proofs.Common.{List, arith, ints, length, ℤ, ◌-◌}
use Rattle.rw_table.specs.Table.{IsTable, Row}
use Rattle.rw_table.specs.Curve.{IsElevationInside}
use Rattle.rw_power.specs.Bounds.{IsFall}
use Rattle.rw_power.proofs.energy.elevation_of.Goals as goal

-- an elevation of a table is from 0 to 10^7 mm
bounded : (rows : List Row) (e : ℤ) → IsTable rows → IsElevationInside rows e → IsFall e
bounded rows e table inside =
    let first = (table.good 0 (omega (arith, table.some))).bounds in
    let last = (table.good (length rows - 1) (omega (arith, table.some))).bounds in
    record { low = omega (arith, ints, first.lowest, inside.from_first); high = omega (arith, ints, last.highest, inside.to_last) }

pub returns-clause-bound : goal.returns-clause-bound
returns-clause-bound c elevation is = bounded c.args.rating.now elevation c.elev.ensures.table (c.elev.ensures.inside elevation is)

use Rattle.rw_table.proofs.Common.{Row, always_returns_same, int_le, of_calls, rules}
use Rattle.rw_table.proofs.Order.{elevations_rise, parted, parted_at}
use Rattle.rw_table.proofs.search.rows_up_to_elevation.Goals as goal

pub returns-clause-place : goal.returns-clause-place
returns-clause-place c =
    let rows = c.args.rows.now in
    let in_order = parted rows (λ row. row.0) c.args.e (elevations_rise rows c.requires) in
    parted_at rows (λ row. row.0) c.args.e _
    (c.partition_point.ensures.partitioned (λ (row : Row). int_le row.0 c.args.e)
    (always_returns_same _ _ _ (λ a r f k. search (rules, of_calls))) in_order)

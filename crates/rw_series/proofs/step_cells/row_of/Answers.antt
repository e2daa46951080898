use Rattle.rw_base.proofs.Common.{ap₂, arith, drop, take, ◌*◌, ◌+◌, ◌-◌, ◌≡◌}
use Rattle.rw_series.proofs.Rows.{row-ends}
use Rattle.rw_series.proofs.step_cells.row_of.Goals as goal

pub slice_bounds-result-end : goal.slice_bounds-result-end
slice_bounds-result-end c =
    let at = ap₂ (λ step width. step * width) c.from.ensures c.from-2.ensures in
    let ends = row-ends c.args.width c.args.step c.requires.first in omega (arith, at, ends, c.from-3.ensures, c.requires.last)

pub returns-clause-row : goal.returns-clause-row
returns-clause-row c =
    let at = ap₂ (λ step width. step * width) c.from.ensures c.from-2.ensures in
    let start = c.from.result * c.from-2.result in
    let wide : start + c.from-3.result - start ≡ c.args.width = omega (arith, c.from-3.ensures) in
    ap₂ (λ count first. take count (drop first c.args.cells.now)) wide at

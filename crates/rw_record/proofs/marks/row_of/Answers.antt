use Rattle.rw_base.proofs.Common.{ap₂, arith, drop, take, ◌*◌, ◌+◌, ◌-◌, ◌≡◌}
use Rattle.rw_record.proofs.Marking.{row_ends}
use Rattle.rw_record.proofs.marks.row_of.Goals as goal

pub slice_bounds-result-end : goal.slice_bounds-result-end
slice_bounds-result-end c =
    let at = ap₂ (λ step slots. step * slots) c.from.ensures c.from-2.ensures in
    let ends = row_ends c.args.slots c.args.step c.requires.first in omega (arith, at, ends, c.from-3.ensures, c.requires.last)

pub returns : goal.returns
returns c =
    let at = ap₂ (λ step slots. step * slots) c.from.ensures c.from-2.ensures in
    let start = c.from.result * c.from-2.result in
    let wide : start + c.from-3.result - start ≡ c.args.slots = omega (arith, c.from-3.ensures) in
    ap₂ (λ count first. take count (drop first c.args.marks.now)) wide at

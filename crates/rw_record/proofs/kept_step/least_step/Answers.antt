use Rattle.rw_record.proofs.Common.{get_or_from_slice_get, rules, slice_get_within, sym, ◌≡◌}
use Rattle.rw_base.proofs.Common.{min}
use Rattle.rw_record.proofs.Spans.{least_more}
use Rattle.rw_record.proofs.kept_step.least_step.Goals as goal

pub loop-place-preserved : goal.loop-place-preserved
loop-place-preserved c =
    let lesser : c.min-least.result ≡ min c.loop-place.least c.get.result.cell.step.0 = search rules in
    least_more c.args.cells.now c.loop-place.place c.get.result (slice_get_within c.args.cells.now c.loop-place.place c.get.result c.get.ensures)
    (sym (get_or_from_slice_get c.args.cells.now c.loop-place.place c.get.result c.get.result c.get.ensures)) c.loop-place.least
    c.min-least.result c.loop-place.invariant lesser

use Rattle.rw_record.proofs.Common.{get_or_from_slice_get, rules, slice_get_within, sym, ◌≡◌}
use Rattle.rw_base.proofs.Common.{max}
use Rattle.rw_record.proofs.Spans.{greatest_more}
use Rattle.rw_record.proofs.kept_step.greatest_step.Goals as goal

pub loop-place-preserved : goal.loop-place-preserved
loop-place-preserved c =
    let greater : c.max-greatest.result ≡ max c.loop-place.greatest c.get.result.cell.step.0 = search rules in
    greatest_more c.args.cells.now c.loop-place.place c.get.result (slice_get_within c.args.cells.now c.loop-place.place c.get.result c.get.ensures)
    (sym (get_or_from_slice_get c.args.cells.now c.loop-place.place c.get.result c.get.result c.get.ensures)) c.loop-place.greatest
    c.max-greatest.result c.loop-place.invariant greater

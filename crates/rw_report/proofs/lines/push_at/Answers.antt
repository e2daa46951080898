use Rattle.rw_base.proofs.Common.{◌≡◌, ◌∙◌, Some, slice_get, string_bytes, sym}
use Rattle.rw_run.specs.declared.trace.TraceEvent.TheVariants.{Written}
use Rattle.rw_run.specs.Trace.{lines_in}
use Rattle.rw_report.proofs.Adding.{line_told, put_at, where_done}
use Rattle.rw_report.proofs.lines.push_at.Goals as goal

pub returns-in-Some : goal.returns-in-Some
returns-in-Some c =
    let write = c.in-Some.write in
    let lines = lines_in c.args.trace.now in
    where_done c.push_write.result
    (line_told c.args.basin.now lines c.args.place (Written write.cell.slot write.cell.step write.content) (string_bytes c.args.text.now)
    (string_bytes c.push_write.new.text)
    (put_at (slice_get lines c.args.place) write (sym c.written.ensures ∙ c.in-Some.is)))
    c.push_write.ensures

use Rattle.rw_base.proofs.Common.{◌∙◌, string_bytes, sym}
use Rattle.rw_run.specs.Trace.{lines_in}
use Rattle.rw_report.specs.Pieces.{dispatch_line}
use Rattle.rw_report.proofs.Adding.{dispatch_at, line_told, where_done}
use Rattle.rw_report.proofs.lines.push_unwritten.Goals as goal

pub returns-in-Some : goal.returns-in-Some
returns-in-Some c =
    let object = c.in-Some.object in
    let put = c.in-Some.put in
    let lines = lines_in c.args.trace.now in
    where_done c.push_dispatch.result
    (line_told c.args.basin.now lines c.args.place (dispatch_line object put) (string_bytes c.args.text.now)
    (string_bytes c.push_dispatch.new.text)
    (dispatch_at _ object put (sym c.dispatched.ensures ∙ c.in-Some.is)))
    c.push_dispatch.ensures

pub returns-in-None : goal.returns-in-None
returns-in-None c =
    where_done c.push_told.result
    (line_told c.args.basin.now (lines_in c.args.trace.now) c.args.place c.line_at.result (string_bytes c.args.text.now)
    (string_bytes c.push_told.new.text) c.line_at.ensures)
    c.push_told.ensures

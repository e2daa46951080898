use Rattle.rw_base.proofs.Common.{◌≡◌, ◌++◌, ◌+◌, ◌∙◌, List, ap, drop, string_bytes, subst}
use Rattle.rw_run.specs.declared.trace.TraceEvent.{TraceEvent}
use Rattle.rw_run.specs.Trace.{lines_in}
use Rattle.rw_report.specs.Why.{open_after, put_told, puts_told}
use Rattle.rw_report.proofs.Growing.{here, written}
use Rattle.rw_report.proofs.cell.push_puts.Goals as goal

pub loop-place-preserved : goal.loop-place-preserved
loop-place-preserved c =
    let lines : List TraceEvent = lines_in c.args.trace.now in
    let basin = c.args.basin.now in
    let cell = c.args.c in
    let text = string_bytes c.loop-place.text in
    let whole = string_bytes c.args.text.now ++ puts_told basin cell 0 lines in
    let place = c.loop-place.place in
    let step = c.loop-place.step.0 in
    let line = c.line_at-line.result in
    let rest = drop (place + 1) lines in
    ap (λ after. string_bytes c.push_told.new.text ++ puts_told basin cell after rest) c.open_after-step.ensures
    ∙ written text (string_bytes c.push_told.new.text) (put_told basin cell step line) (puts_told basin cell (open_after step line) rest) whole
    (subst (λ (left : List TraceEvent). text ++ puts_told basin cell step left ≡ whole) (here lines place line c.line_at-line.ensures)
    c.loop-place.invariant)
    c.in_ok-push_told.ensures

use Rattle.rw_engine.proofs.Common.{[], ap, held, subst, ◌≡◌, ◌∙◌}
use Rattle.rw_run.specs.Trace.{lines_in, told}
use Rattle.std.specs.Prelude.{IfOk, IfSome, is_some}
use Rattle.rw_engine.proofs.Notings.{some_noted}
use Rattle.rw_record.specs.Noted.{cells_noted, with_noted}
use Rattle.rw_engine.proofs.Records.{any_ok}
use Rattle.rw_engine.proofs.Traces.{kept_told, shown_more}
use Rattle.rw_engine.proofs.replaying.retell.Goals as goal

pub returns-in_err-note_again-clause-kept : goal.returns-in_err-note_again-clause-kept
returns-in_err-note_again-clause-kept c = some_noted (held c.args.series.now) c.args.noted.now c.note_again.new.noted c.in_err-note_again.ensures.1

pub returns-in_err-append-clause-kept : goal.returns-in_err-append-clause-kept
returns-in_err-append-clause-kept c =
    some_noted (held c.args.series.now) c.args.noted.now c.note_again.new.noted (cells_noted c.looked.result.now, c.in_ok-note_again.ensures)

pub returns-in_err-append-clause-keeps_lines : goal.returns-in_err-append-clause-keeps_lines
returns-in_err-append-clause-keeps_lines c = ap is_some c.in_err-append.ensures.unchanged

pub returns-clause-kept : goal.returns-clause-kept
returns-clause-kept c =
    some_noted (held c.args.series.now) c.args.noted.now c.note_again.new.noted (cells_noted c.looked.result.now, c.in_ok-note_again.ensures)

pub returns-clause-keeps_lines : goal.returns-clause-keeps_lines
returns-clause-keeps_lines c =
    kept_told c.append.result c.args.lines.now c.append.new.self (lines_in c.lines.result.now) c.append.ensures.appended c.append.ensures.unchanged

pub returns-clause-keeps_trace : goal.returns-clause-keeps_trace
returns-clause-keeps_trace c =
    kept_told c.append-2.result c.args.trace.now c.append-2.new.self (lines_in c.lines-2.result.now) c.append-2.ensures.appended
    c.append-2.ensures.unchanged

pub returns-clause-noted : goal.returns-clause-noted
returns-clause-noted c =
    any_ok c.append-2.result (subst (λ looked. c.note_again.new.noted ≡ with_noted (held c.args.series.now) (cells_noted looked) c.args.noted.now)
    c.looked.ensures c.in_ok-note_again.ensures)

pub returns-clause-lines : goal.returns-clause-lines
returns-clause-lines c =
    any_ok c.append-2.result (subst (λ more. IfSome c.append.new.self (λ these. these ≡ more)) (ap lines_in c.lines.ensures)
    (shown_more c.args.lines.now c.append.new.self [] (lines_in c.lines.result.now) c.in_ok-append.ensures.appended c.requires))

pub returns-clause-told : goal.returns-clause-told
returns-clause-told c =
    subst (λ more. IfOk c.append-2.result (λ done. c.append-2.new.self ≡ told c.args.trace.now more)) (ap lines_in c.lines-2.ensures)
    c.append-2.ensures.appended

use Rattle.std.proofs.Common.{ap, refl, sym, ◌++◌, ◌∙◌}
use Rattle.rw_series.specs.Series.{held}
use Rattle.rw_report.specs.Section.{row, values_in}
use Rattle.rw_report.specs.Sheet.{sheet_line}
use Rattle.rw_report.proofs.Listing.{row_told}
use Rattle.rw_report.proofs.kept.tell_anew.Goals as goal

pub returns-clause-told : goal.returns-clause-told
returns-clause-told c = λ tells.
    let basin = c.args.basin.now in
    let values = values_in (held c.args.series.now) in
    let step = c.args.step in
    c.in_ok-push_row.ensures
    ∙ ap (λ t. t ++ row basin values step) c.clear.ensures.bytes
    ∙ sym (row_told basin values step)
    ∙ ap (λ all. sheet_line basin step all) (sym c.in_ok-list.ensures)

pub returns-clause-tells : goal.returns-clause-tells
returns-clause-tells c = record { step_is = refl; values_are = c.in_ok-list.ensures }

use Rattle.std.proofs.Common.{ap₂, arith, sym, ◌∙◌}
use Rattle.rw_series.specs.Series.{held}
use Rattle.rw_report.specs.Section.{values_in}
use Rattle.rw_report.specs.Sheet.{sheet_line}
use Rattle.rw_report.proofs.Listing.{row_told}
use Rattle.rw_report.proofs.kept.is_current.Goals as goal

pub returns-clause-row : goal.returns-clause-row
returns-clause-row c = λ alike.
    let basin = c.args.basin.now in
    let same = c.if-line-step.false in
    let first = c.requires.first in
    c.requires.told (omega (arith, same, first))
    ∙ ap₂ (λ step values. sheet_line basin step values) same (sym c.as_slice.ensures.value ∙ c.are_alike.ensures alike)
    ∙ row_told basin (values_in (held c.args.series.now)) c.args.step

pub returns-clause-tells : goal.returns-clause-tells
returns-clause-tells c = λ alike. record { step_is = c.if-line-step.false; values_are = sym c.as_slice.ensures.value ∙ c.are_alike.ensures alike }

use Rattle.std.proofs.Common.{◌≡◌, ◌++◌, ◌∙◌, ap, arith, string_bytes}
use Rattle.rw_series.specs.Series.{held}
use Rattle.rw_report.specs.Section.{for_each, row, values_in}
use Rattle.rw_report.proofs.Growing.{behind, next}
use Rattle.rw_report.proofs.table.push_rows.Goals as goal

pub loop-before-init : goal.loop-before-init
loop-before-init c = (c.requires.first, λ front back is. is)

pub loop-before-preserved : goal.loop-before-preserved
loop-before-preserved c =
    let near = c.loop-before-test.true in
    let text = string_bytes c.loop-before.text in
    let new = string_bytes c.push_row.new.text in (
      omega (arith, near),
      λ front back is. next (row c.args.basin.now (values_in (held c.args.series.now))) c.loop-before.before back (front ++ text) (front ++ new)
          (c.loop-before.invariant.1 front back is) (behind front text new _ c.in_ok-push_row.ensures),
    )

pub returns : goal.returns
returns c = λ front back is.
    let done = c.loop-before-test.false in
    let few = c.loop-before.invariant.0 in
    let same : c.loop-before.before ≡ c.args.closed = omega (arith, done, few) in
    c.loop-before.invariant.1 front back is ∙ ap (λ n. back ++ for_each (row c.args.basin.now (values_in (held c.args.series.now))) n) same

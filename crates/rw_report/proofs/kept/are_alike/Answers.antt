use Rattle.std.proofs.Common.{Option, ap, arith, option_map, ℕ, ℤ, ◌∙◌}
use Rattle.rw_model.specs.declared.content.Content.{Content}
use Rattle.rw_series.specs.Series.{held}
use Rattle.rw_report.specs.Section.{values_in}
use Rattle.rw_report.proofs.Listing.{alike_more}
use Rattle.rw_report.proofs.kept.are_alike.Goals as goal

pub loop-before-preserved : goal.loop-before-preserved
loop-before-preserved c =
    let test = c.loop-before-test.true in
    let same = c.requires in
    let count = c.slot_count-count.ensures.count in
    let values : (ℕ → Option ℤ) = λ slot. values_in (held c.args.series.now) slot c.args.step.0 in
    alike_more c.args.values.now values c.loop-before.before c.from-in-loop-before.result c.index-values-from.result c.from-in-loop-before.ensures
    (omega (arith, test, same, count))
    c.index-values-from.is
    (c.is_in.ensures c.if-not-is_in.false ∙ ap (λ content. option_map (λ (held : Content). held.value) content)
    (c.content.ensures ∙ c.at_step-cells.ensures.cells _)) c.loop-before.invariant

use Rattle.std.proofs.Common.{Option, ap, option_map, ℕ, ℤ, ◌∙◌}
use Rattle.rw_model.specs.declared.content.Content.{Content}
use Rattle.rw_series.specs.Series.{held}
use Rattle.rw_report.specs.Section.{values_in}
use Rattle.rw_report.proofs.Listing.{value_put}
use Rattle.rw_report.proofs.kept.list.Goals as goal

pub loop-before-preserved : goal.loop-before-preserved
loop-before-preserved c =
    let values : (ℕ → Option ℤ) = λ slot. values_in (held c.args.series.now) slot c.args.step.0 in
    value_put values c.loop-before.before c.loop-before.values.items c.push.new.self.items c.of.result c.in_ok-push.ensures.items
    c.loop-before.invariant
    (c.of.ensures ∙ ap (λ content. option_map (λ (held : Content). held.value) content) (c.get.ensures ∙ c.at_step-cells.ensures.cells _))

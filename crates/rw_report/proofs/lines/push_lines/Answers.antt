use Rattle.rw_base.proofs.Common.{◌∙◌}
use Rattle.rw_report.proofs.lines.push_lines.Goals as goal

pub loop-place-preserved : goal.loop-place-preserved
loop-place-preserved c = c.in_ok-push_at.ensures ∙ c.loop-place.invariant

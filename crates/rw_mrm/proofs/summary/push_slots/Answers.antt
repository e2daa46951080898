use Rattle.rw_base.proofs.Common.{string_bytes}
use Rattle.rw_report.proofs.Growing.{next}
use Rattle.rw_report.specs.Section.{for_each}
use Rattle.rw_mrm.specs.Summary.{cell_line, values_in_tally}
use Rattle.rw_mrm.proofs.summary.push_slots.Goals as goal

pub loop-before-preserved : goal.loop-before-preserved
loop-before-preserved c =
    next (λ slot. for_each
    (λ step. cell_line c.args.basin.now slot step (values_in_tally c.args.tally.now slot step)) c.args.tally.now.steps) c.loop-before.before
    (string_bytes c.args.text.now) (string_bytes c.loop-before.text)
    (string_bytes c.push_steps.new.text) c.loop-before.invariant c.in_ok-push_steps.ensures

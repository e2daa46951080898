use Rattle.rw_base.proofs.Common.{None, replicate, ◌≡◌}
use Rattle.rw_rerun.proofs.spare.unchanged.Given as goal

abbrev pub invariant-loop-step : goal.invariant-loop-step
invariant-loop-step l = l.changes.items ≡ replicate l._step None

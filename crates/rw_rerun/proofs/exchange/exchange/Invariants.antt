use Rattle.rw_base.proofs.Common.{length, ◌≡◌, ◌≤◌}
use Rattle.rw_rerun.proofs.Exchanges.{both}
use Rattle.rw_rerun.proofs.exchange.exchange.Given as goal

abbrev pub invariant-loop-change : goal.invariant-loop-change
invariant-loop-change l = record {
  near : length l.changes.items ≤ length l.kept.items;
  whole : both l.kept.items l.changes.items ≡ both l.fn.kept.items l.fn.changes.items;
}

abbrev pub decreases-loop-change : goal.decreases-loop-change
decreases-loop-change l = length l.changes.items

use Rattle.rw_base.proofs.Common.{length, slice_index_or, ℕ, ◌-◌, ◌≡◌, ◌≤◌}
use Rattle.rw_rules.specs.Firing.{most_looks}
use Rattle.rw_rules.proofs.most.reads.Given as goal

abbrev pub invariant-loop-before : goal.invariant-loop-before
invariant-loop-before l = record {
  many : length l.reads.items ≡ l.before;
  each : (rule : ℕ) → 1 ≤ rule → rule ≤ l.before → slice_index_or l.reads.items (rule - 1) 0 ≡ most_looks l.policy rule;
}

use Rattle.std.proofs.Common.{◌≡◌, ◌+◌, ◌≤◌, drop}
use Rattle.rpl_tree.proofs.Common.{capped, limits, weights}
use Rattle.rpl_budget.specs.Seen.{tree_kinds_seen}
use Rattle.rpl_budget.proofs.known.weights.Given as goal

abbrev pub invariant-loop-kind : goal.invariant-loop-kind
invariant-loop-kind l = record {
  found : capped limits.words (l.sum + weights (tree_kinds_seen (drop l.kind-index l.kinds)))
      ≡ capped limits.words (weights (tree_kinds_seen l.kinds));
  within : l.sum ≤ limits.words + 1;
}

use Rattle.std.proofs.Common.{◌≡◌, ◌≤◌, drop, length, map}
use Rattle.rpl_tree.proofs.Common.{param_names, parameter_of}
use Rattle.rpl_budget.specs.Seen.{names_of}
use Rattle.rpl_budget.proofs.ruleset.param_names.Given as goal

abbrev pub invariant-loop-k : goal.invariant-loop-k
invariant-loop-k l = record {
  found : names_of l.names ≡ param_names (map parameter_of (drop l.k l.params));
  within : l.k ≤ length l.params;
}

abbrev pub decreases-loop-k : goal.decreases-loop-k
decreases-loop-k l = l.k

use Rattle.rpl_compile.proofs.Common.{drop, length, map, parameter_of, scope_seen, written_parameters, ◌≡◌, ◌≤◌}
use Rattle.rpl_compile.proofs.ruleset.names_of.Given as goal

abbrev pub invariant-loop-k : goal.invariant-loop-k
invariant-loop-k l = record {
  found : scope_seen l.names ≡ written_parameters l.k (map parameter_of (drop l.k l.params));
  within : l.k ≤ length l.params;
}

abbrev pub decreases-loop-k : goal.decreases-loop-k
decreases-loop-k l = l.k

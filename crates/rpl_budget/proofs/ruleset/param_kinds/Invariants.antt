use Rattle.std.proofs.Common.{◌≡◌, ◌++◌, drop, map}
use Rattle.rpl_tree.proofs.Common.{param_kinds, parameter_of}
use Rattle.rpl_budget.specs.Seen.{tree_kinds_seen}
use Rattle.rpl_budget.proofs.ruleset.param_kinds.Given as goal

abbrev pub invariant-loop-param : goal.invariant-loop-param
invariant-loop-param l =
    tree_kinds_seen l.kinds.items ++ param_kinds (map parameter_of (drop l.param-index l.params)) ≡ param_kinds (map parameter_of l.params)

use Rattle.rpl_compile.proofs.Common.{drop, kinds_seen, map, parameter_of, written_takes, ◌++◌, ◌≡◌}
use Rattle.rpl_compile.proofs.ruleset.takes_of.Given as goal

abbrev pub invariant-loop-param : goal.invariant-loop-param
invariant-loop-param l =
    kinds_seen l.kinds.items ++ written_takes (map parameter_of (drop l.param-index l.params)) ≡ written_takes (map parameter_of l.params)

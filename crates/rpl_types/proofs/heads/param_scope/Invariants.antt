use Rattle.std.proofs.Common.{◌≡◌, ◌-◌, drop, length, map}
use Rattle.rpl_tree.specs.Seen.{parameter_of}
use Rattle.rpl_types.specs.Functions.{param_scope}
use Rattle.rpl_types.proofs.heads.param_scope.Given as goal

abbrev pub invariant-loop-behind : goal.invariant-loop-behind
invariant-loop-behind l =
    l.scope ≡ param_scope (map parameter_of (drop (length l.params - l.behind) l.params))

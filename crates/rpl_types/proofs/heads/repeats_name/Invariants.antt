use Rattle.std.proofs.Common.{◌≡◌, drop, map}
use Rattle.rpl_tree.specs.Seen.{parameter_of}
use Rattle.rpl_types.specs.Functions.{repeats_name}
use Rattle.rpl_types.proofs.Heading.{repeats_behind}
use Rattle.rpl_types.proofs.heads.repeats_name.Given as goal

-- what was seen and what is left decide
abbrev pub invariant-loop-param : goal.invariant-loop-param
invariant-loop-param l =
    repeats_behind l.seen (map parameter_of (drop l.param-index l.params)) ≡ repeats_name (map parameter_of l.params)

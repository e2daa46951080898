use Rattle.std.proofs.Common.{◌≡◌, map, take}
use Rattle.rpl_tree.specs.Seen.{parameter_of}
use Rattle.rpl_types.proofs.Heading.{taken}
use Rattle.rpl_types.proofs.heads.signature.Given as goal

abbrev pub invariant-loop-param : goal.invariant-loop-param
invariant-loop-param l = l.takes.items ≡ taken (map parameter_of (take l.param-index l.params))

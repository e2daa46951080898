use Rattle.std.proofs.Common.{◌≡◌, ◌+◌, drop, map}
use Rattle.rpl_tree.specs.Seen.{declared_of}
use Rattle.rpl_tree.specs.Bounds.{rule_count}
use Rattle.rpl_types.proofs.typed.rules_in.Given as goal

abbrev pub invariant-loop-declaration : goal.invariant-loop-declaration
invariant-loop-declaration l =
    l.count + rule_count (map declared_of (drop l.declaration-index l.declarations))
    ≡ rule_count (map declared_of l.declarations)

use Rattle.rpl_compile.proofs.Common.{callees_of, drop, length, map, predefined_callees, rules_of, written_from, ◌++◌, ◌+◌, ◌≡◌}
use Rattle.rpl_tree.specs.Seen.{declared_of}
use Rattle.rpl_compile.proofs.ruleset.written_blocks.Given as goal

abbrev pub invariant-loop-declaration : goal.invariant-loop-declaration
invariant-loop-declaration l =
    l.blocks.items
    ++ written_from (callees_of l.known.items) (length l.blocks.items + 1) (map declared_of (drop l.declaration-index l.rules.declarations.items))
    ≡ written_from predefined_callees 1 (rules_of l.rules)

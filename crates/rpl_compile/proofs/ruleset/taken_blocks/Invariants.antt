use Rattle.rpl_compile.proofs.Common.{callees_of, length, map, predefined_callees, written_from, ◌++◌, ◌+◌, ◌≡◌}
use Rattle.std.specs.Vec.Iter.{into_iter_items, into_iter_len}
use Rattle.rpl_tree.specs.Seen.{declared_of}
use Rattle.rpl_compile.proofs.ruleset.taken_blocks.Given as goal

-- what is there and the blocks to come
abbrev pub invariant-loop-declaration : goal.invariant-loop-declaration
invariant-loop-declaration l = record {
  blocks : l.blocks.items
      ++ written_from (callees_of l.known.items) (length l.blocks.items + 1) (map declared_of (into_iter_items l.declaration-iterator))
      ≡ written_from predefined_callees 1 (map declared_of (into_iter_items l.initial.declaration-iterator));
  left : into_iter_len l.declaration-iterator ≡ length (into_iter_items l.declaration-iterator);
}

use Rattle.rpl_compile.proofs.Common.{callees_of, drop, map, predefined_callees, written_from, ◌++◌, ◌+◌, ◌≡◌}
use Rattle.std.proofs.Common.{flat_map, string_bytes}
use Rattle.rpl_code.specs.Spelling.{block_lines, lines_ended, spelt}
use Rattle.rpl_tree.specs.Seen.{declared_of}
use Rattle.rpl_compile.proofs.ruleset.written_text.Given as goal

-- what is there and the blocks to come
abbrev pub invariant-loop-place : goal.invariant-loop-place
invariant-loop-place l =
    string_bytes l.text
    ++ lines_ended (flat_map block_lines
    (written_from (callees_of l.known.items) (l.place + 1) (map declared_of (drop l.place l.declarations))))
    ≡ spelt (written_from predefined_callees 1 (map declared_of l.declarations))

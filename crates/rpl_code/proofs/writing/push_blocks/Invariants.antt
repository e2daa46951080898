use Rattle.rw_base.proofs.Common.{◌≡◌, ◌++◌, drop, string_bytes, flat_map}
use Rattle.rpl_code.specs.Spelling.{lines_ended, block_lines}
use Rattle.rpl_code.proofs.writing.push_blocks.Given as goal

-- what is there and the blocks to come
abbrev pub invariant-loop-block : goal.invariant-loop-block
invariant-loop-block l =
    string_bytes l.text ++ lines_ended (flat_map block_lines (drop l.block-index l.blocks))
    ≡ string_bytes l.fn.text ++ lines_ended (flat_map block_lines l.blocks)

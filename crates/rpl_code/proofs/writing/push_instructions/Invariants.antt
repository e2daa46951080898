use Rattle.std.proofs.Common.{◌≡◌, ◌++◌, map, drop, string_bytes}
use Rattle.rpl_code.specs.Spelling.{lines_ended, instruction_line}
use Rattle.rpl_code.proofs.writing.push_instructions.Given as goal

-- what is there and the lines to come
abbrev pub invariant-loop-instruction : goal.invariant-loop-instruction
invariant-loop-instruction l =
    string_bytes l.text ++ lines_ended (map instruction_line (drop l.instruction-index l.lines))
    ≡ string_bytes l.fn.text ++ lines_ended (map instruction_line l.lines)

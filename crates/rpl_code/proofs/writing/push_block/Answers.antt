use Rattle.std.proofs.Common.{map, string_bytes, ◌++◌, ap, ◌∙◌}
use Rattle.rpl_code.specs.Spelling.{lines_ended, head_line, locals_line, instruction_line}
use Rattle.rpl_code.proofs.Growing.{block_written}
use Rattle.rpl_code.proofs.writing.push_block.Goals as goal

pub returns : goal.returns
returns c =
    let block = c.args.block.now in
    block_written (string_bytes c.args.text.now) (head_line block.head) (locals_line block.locals) (map instruction_line block.lines)
    (string_bytes c.push_head.new.text) (string_bytes c.push_str.new.self) (string_bytes c.push_locals.new.text)
    (string_bytes c.push_str-2.new.self) (string_bytes c.push_instructions.new.text) (string_bytes c.push_str-3.new.self)
    c.in_ok-push_head.ensures c.in_ok-push_str.ensures.bytes c.in_ok-push_locals.ensures c.in_ok-push_str-2.ensures.bytes
    (c.in_ok-push_instructions.ensures ∙ ap (λ lines. string_bytes c.push_str-2.new.self ++ lines_ended (map instruction_line lines))
    c.as_slice.ensures)
    c.in_ok-push_str-3.ensures.bytes

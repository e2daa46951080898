use Rattle.rw_commands.proofs.sections.write_told.Goals as goal

pub returns-in-Ok-write_pieces-clause-out : goal.returns-in-Ok-write_pieces-clause-out
returns-in-Ok-write_pieces-clause-out g c = λ policy before means. record {
  text = c.tell_by_code.new.sheet.text;
  is = c.in-Ok.ensures.text policy before means;
  grew = rw c.text.ensures at c.in-Ok-write_pieces.ensures.whole;
  later = c.in-Ok-write_pieces.ensures.later;
}

pub returns-in-Err-write_pieces-clause-out : goal.returns-in-Err-write_pieces-clause-out
returns-in-Err-write_pieces-clause-out g c = λ policy before means. (
  c.in-Ok.end,
  c.tell_by_code.new.sheet.text,
  c.in-Ok.ensures.text policy before means,
  rw c.text.ensures at c.in-Err-write_pieces.ensures.prefix,
  c.in-Err-write_pieces.ensures.cause,
)

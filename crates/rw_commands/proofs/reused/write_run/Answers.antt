use Rattle.rw_commands.proofs.reused.write_run.Goals as goal

pub returns-in-Ok-write_pieces-clause-out : goal.returns-in-Ok-write_pieces-clause-out
returns-in-Ok-write_pieces-clause-out g c = λ policy given means next. record {
  text = c.tell_run.new.sheet.text;
  is = c.in-Ok.ensures.text policy given means next;
  grew = rw c.text.ensures at c.in-Ok-write_pieces.ensures.whole;
  later = c.in-Ok-write_pieces.ensures.later;
}

pub returns-in-Err-write_pieces-clause-out : goal.returns-in-Err-write_pieces-clause-out
returns-in-Err-write_pieces-clause-out g c = λ policy given means next. (
  c.in-Ok.end,
  c.tell_run.new.sheet.text,
  c.in-Ok.ensures.text policy given means next,
  rw c.text.ensures at c.in-Err-write_pieces.ensures.prefix,
  c.in-Err-write_pieces.ensures.cause,
)

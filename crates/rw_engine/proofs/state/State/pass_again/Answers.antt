use Rattle.rw_engine.proofs.Common.{ap, held, last_put, option_or, refl, subst, sym, ◌∙◌}
use Rattle.std.specs.Prelude.{is_some}
use Rattle.rw_record.specs.Noted.{cells_noted, with_noted}
use Rattle.rw_run.specs.Trace.{lines_in}
use Rattle.rw_engine.specs.Records.{CanWriteLines, puts_in}
use Rattle.rw_engine.proofs.Notings.{cleared_is, cleared_some}
use Rattle.rw_engine.proofs.Traces.{emptied, short_some}
use Rattle.rw_engine.proofs.state.State.pass_again.Goals as goal

pub retell-requires : goal.retell-requires
retell-requires c = rw c.truncate.ensures (emptied c.args.self.now.lines)

pub write_again-requires-clause-can : goal.write_again-requires-clause-can
write_again-requires-clause-can c = subst (CanWriteLines c.args.basin.now) (sym (ap lines_in c.lines.ensures)) c.requires.can

pub returns : goal.returns
returns c = record {
  rules = refl;
  queue = refl;
  work = refl;
  counts = refl;
  firings = refl;
  made = c.write_again.ensures.made;
  notes = c.retell.ensures.kept ∙ ap is_some c.begin_step.ensures ∙ cleared_some c.args.self.now.noted;
  keeps_lines = c.retell.ensures.keeps_lines ∙ ap is_some c.truncate.ensures ∙ short_some c.args.self.now.lines 0;
  keeps_trace = c.retell.ensures.keeps_trace;
  unchanged = tt;
  untold = tt;
  noted =
      c.in-Ok.ensures.noted ∙ ap (with_noted (held c.args.self.now.run.series) (cells_noted c.args.kept.now.looked))
      (c.begin_step.ensures ∙ cleared_is c.args.self.now.noted);
  lines_are = c.in-Ok.ensures.lines;
  trace = c.in-Ok.ensures.told;
  ends = (refl, c.step.ensures);
  cells = λ cell. c.write_again.ensures.cells cell
      ∙ ap (λ told. option_or (last_put c.args.basin.now (puts_in told) cell) (held c.args.self.now.run.series cell)) (ap lines_in c.lines.ensures);
}

pub returns-in-Err : goal.returns-in-Err
returns-in-Err c = record {
  rules = refl;
  queue = refl;
  work = refl;
  counts = refl;
  firings = refl;
  made = c.requires.made;
  notes = c.retell.ensures.kept ∙ ap is_some c.begin_step.ensures ∙ cleared_some c.args.self.now.noted;
  keeps_lines = ap is_some c.truncate-in-Err.ensures ∙ short_some c.retell.new.lines 0 ∙ c.retell.ensures.keeps_lines
      ∙ ap is_some c.truncate.ensures ∙ short_some c.args.self.now.lines 0;
  keeps_trace = c.retell.ensures.keeps_trace;
  unchanged = ap (λ trace. record c.args.self.now.run { trace = trace }) c.in-Err.ensures.unchanged;
  untold = rw c.truncate-in-Err.ensures (emptied c.retell.new.lines);
  noted = tt;
  lines_are = tt;
  trace = tt;
  ends = tt;
  cells = tt;
}

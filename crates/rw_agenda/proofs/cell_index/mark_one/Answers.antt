use Rattle.rw_base.proofs.Common.{arith, nat_tests}
use Rattle.rw_agenda.proofs.Marking.{marks_none, marks_one}
use Rattle.rw_agenda.proofs.cell_index.mark_one.Goals as goal

pub returns-then-watch-step : goal.returns-then-watch-step
returns-then-watch-step c =
    marks_one c.args.marks.now c.set.new.self c.args.watch.rule c.args.watch.step c.args.step (grind (arith, nat_tests, c.if-watch-step.true))
    c.set.ensures

pub returns-else-watch-step : goal.returns-else-watch-step
returns-else-watch-step c =
    marks_none c.args.marks.now c.args.watch.rule c.args.watch.step c.args.step (grind (arith, nat_tests, c.if-watch-step.false))

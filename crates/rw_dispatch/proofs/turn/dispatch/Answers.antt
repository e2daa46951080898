use Rattle.rw_dispatch.proofs.Common.{ap, held, subst, sym, ◌∙◌}
use Rattle.rw_run.specs.Dispatch.{answered, dispatched, looks_of}
use Rattle.rw_run.specs.Log.{written_by}
use Rattle.rw_dispatch.specs.Answer.{Tells, answer_of, asked_by_solution}
use Rattle.rw_dispatch.specs.Putting.{puts_made}
use Rattle.rw_dispatch.specs.Stage.{stage}
use Rattle.rw_dispatch.specs.Writes.{AreWrites}
use Rattle.rw_dispatch.proofs.CanPuts.{puts-seen, solved-seen}
use Rattle.rw_dispatch.proofs.Judgement.{puts_told}
use Rattle.rw_dispatch.proofs.Waking.{leaves_written}
use Rattle.rw_dispatch.proofs.turn.dispatch.Goals as goal

pub answer-requires-clause-puts : goal.answer-requires-clause-puts
answer-requires-clause-puts g c =
    puts-seen c.args.basin.now (held c.args.series.now) c.args.object.0 c.args.step.0 c.see-kind.result.now c.see-kind.new.view c.solve-solved.result
    c.see-kind.ensures.kind c.see-kind.ensures.seen c.solve-solved.ensures c.requires.turn.known c.see-kind.ensures.sound

pub made_of-made-requires-clause-puts : goal.made_of-made-requires-clause-puts
made_of-made-requires-clause-puts g c =
    puts-seen c.args.basin.now (held c.args.series.now) c.args.object.0 c.args.step.0 c.see-kind.result.now c.see-kind.new.view c.solve-solved.result
    c.see-kind.ensures.kind c.see-kind.ensures.seen c.solve-solved.ensures c.requires.turn.known c.see-kind.ensures.sound

pub make-requires-clause-can : goal.make-requires-clause-can
make-requires-clause-can g c = subst (AreWrites c.args.basin.now) (sym c.as_slice-writes.ensures) c.answer.ensures.can

pub wake_written-requires-clause-can : goal.wake_written-requires-clause-can
wake_written-requires-clause-can g c = subst (AreWrites c.args.basin.now) (sym c.as_slice-writes.ensures) c.answer.ensures.can

pub returns-clause-answer : goal.returns-clause-answer
returns-clause-answer g c =
    let basin = c.args.basin.now in
    let object = c.args.object.0 in
    let step = c.args.step.0 in
    let cells = held c.args.series.now in
    let looked = looks_of basin cells object step in
    let asked = asked_by_solution c.solve-solved.result in
    let solved = solved-seen basin cells object step c.see-kind.result.now c.see-kind.new.view c.solve-solved.result
    c.see-kind.ensures.kind c.see-kind.ensures.seen c.solve-solved.ensures in
    let made = c.made_of-made.ensures cells c.see-kind.ensures.seen in
    let event = dispatched basin cells object step in
    let ended = c.answer.ensures.answer cells looked c.see-kind.ensures.seen in
    let is = c.answer_of.ensures ∙ ap (answer_of c.answer.new.end asked) made in
    subst (Tells basin looked object step event) (sym is)
    (record {
      is = sym (ap (answered basin cells looked object step) solved) ∙ ended.is;
      puts = puts_told basin cells object step c.answer.new.end asked
          (puts-seen basin cells object step c.see-kind.result.now c.see-kind.new.view c.solve-solved.result
          c.see-kind.ensures.kind c.see-kind.ensures.seen c.solve-solved.ensures c.requires.turn.known c.see-kind.ensures.sound);
    })

pub returns-clause-leaves : goal.returns-clause-leaves
returns-clause-leaves g c =
    let basin = c.args.basin.now in
    let object = c.args.object.0 in
    let step = c.args.step.0 in
    let cells = held c.args.series.now in
    let looked = looks_of basin cells object step in
    let asked = asked_by_solution c.solve-solved.result in
    let solved = solved-seen basin cells object step c.see-kind.result.now c.see-kind.new.view c.solve-solved.result
    c.see-kind.ensures.kind c.see-kind.ensures.seen c.solve-solved.ensures in
    let ended = c.answer.ensures.answer cells looked c.see-kind.ensures.seen in
    let same = ap (answered basin cells looked object step) solved in
    leaves_written basin looked object step (dispatched basin cells object step)
    (answer_of c.answer.new.end asked (puts_made basin cells object step asked))
    c.as_slice-writes.result.now (stage c.args.series.now c.args.queue.now) (stage c.make.new.series c.wake_written.new.self)
    (sym same ∙ ended.is)
    (c.as_slice-writes.ensures ∙ ended.writes ∙ ap written_by (sym ended.is) ∙ ap written_by same)
    c.make.ensures.cells c.wake_written.ensures.woken

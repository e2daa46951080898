use Rattle.rw_dispatch.proofs.Common.{ap, held, refl, subst, sym, ◌∙◌}
use Rattle.rw_run.specs.Dispatch.{answered, looks_of}
use Rattle.rw_run.specs.Frame.{IsFault}
use Rattle.rw_run.specs.Log.{asked_in as asked_in_event, written_by}
use Rattle.rw_dispatch.specs.Writes.{AreWrites}
use Rattle.rw_dispatch.proofs.Asking.{asked_told}
use Rattle.rw_dispatch.proofs.Makes.{all_write}
use Rattle.rw_dispatch.specs.Answer.{asked_by_solution}
use Rattle.rw_dispatch.specs.Putting.{puts_made}
use Rattle.rw_dispatch.proofs.CanPuts.{puts-seen, solved-seen}
use Rattle.rw_dispatch.proofs.turn.judge_dispatch.Goals as goal

pub answer-requires-clause-puts : goal.answer-requires-clause-puts
answer-requires-clause-puts g c =
    puts-seen c.args.basin.now (held c.args.series.now) c.args.object.0 c.args.step.0 c.see-kind.result.now c.see-kind.new.view c.solve.new.solved
    c.see-kind.ensures.kind c.see-kind.ensures.seen c.solve.ensures c.requires.turn.known c.see-kind.ensures.sound

pub returns-clause-ends : goal.returns-clause-ends
returns-clause-ends g c =
    let basin = c.args.basin.now in
    let object = c.args.object.0 in
    let step = c.args.step.0 in
    let cells = held c.args.series.now in
    let looked = looks_of basin cells object step in
    let solved = solved-seen basin cells object step c.see-kind.result.now c.see-kind.new.view c.solve.new.solved
    c.see-kind.ensures.kind c.see-kind.ensures.seen c.solve.ensures in
    record {
      asked = asked_by_solution c.solve.new.solved;
      written = puts_made basin cells object step (asked_by_solution c.solve.new.solved);
      is = ap (answered basin cells looked object step) (sym solved) ∙ (c.answer.ensures.answer cells looked c.see-kind.ensures.seen).is;
    }

pub keep_asked-requires-clause-puts : goal.keep_asked-requires-clause-puts
keep_asked-requires-clause-puts g c =
    puts-seen c.args.basin.now (held c.args.series.now) c.args.object.0 c.args.step.0 c.see-kind.result.now c.see-kind.new.view c.solve.new.solved
    c.see-kind.ensures.kind c.see-kind.ensures.seen c.solve.ensures c.requires.turn.known c.see-kind.ensures.sound

pub returns-clause-work : goal.returns-clause-work
returns-clause-work g c =
    let basin = c.args.basin.now in
    let object = c.args.object.0 in
    let step = c.args.step.0 in
    let cells = held c.args.series.now in
    let looked = looks_of basin cells object step in
    let puts = asked_by_solution c.solve.new.solved in
    let solved = solved-seen basin cells object step c.see-kind.result.now c.see-kind.new.view c.solve.new.solved
    c.see-kind.ensures.kind c.see-kind.ensures.seen c.solve.ensures in
    let event = answered basin cells looked object step in
    let ended = c.answer.ensures.answer cells looked c.see-kind.ensures.seen in
    let can = puts-seen basin cells object step c.see-kind.result.now c.see-kind.new.view c.solve.new.solved
    c.see-kind.ensures.kind c.see-kind.ensures.seen c.solve.ensures c.requires.turn.known c.see-kind.ensures.sound in
    record {
      writes = ended.writes ∙ ap written_by (sym ended.is) ∙ ap (λ s. written_by (event s)) solved;
      can = c.answer.ensures.can;
      keeps = refl;
      asked = λ keeps calm. c.keep_asked.ensures keeps
          ∙ asked_told basin cells looked object step c.solve.new.solved (subst (λ s. ¬ IsFault (event s)) (sym solved) calm)
          ∙ ap (λ s. asked_in_event (event s)) solved;
      can_ask = λ keeps. subst (AreWrites basin) (sym (c.keep_asked.ensures keeps)) (all_write basin object step puts c.requires.turn can.can);
    }

use Rattle.rw_dispatch.proofs.Judgement.{ended_passed}
use Rattle.rw_dispatch.proofs.turn.put_all.Goals as goal

pub returns-in-Ok-clause-answer : goal.returns-in-Ok-clause-answer
returns-in-Ok-clause-answer c = λ cells looked seen.
    ended_passed c.args.basin.now cells looked c.args.object.0 c.args.step.0 c.args.asked.now c.judge.new.writes (c.in-Ok.ensures.passed cells seen)

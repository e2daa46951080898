use Rattle.rpl_code.proofs.LinesTried.{too_many}
use Rattle.rpl_code.proofs.line.said_with.Goals as goal

pub returns-in-Some-cut : goal.returns-in-Some-cut
returns-in-Some-cut c = λ _. let parts = c.in-Some-cut.field-0 in
    too_many c.args.word.now c.args.others.now c.in-Some.one.now c.in-Some.two.now parts.0.now parts.1.now c.in-Some.ensures.parts
    c.in-Some-cut.ensures.parts

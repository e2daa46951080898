use Rattle.std.proofs.Common.{[]}
use Rattle.rpl_code.specs.Parting.{parted}
use Rattle.rpl_code.proofs.LinesTried.{no_text}
use Rattle.rpl_code.proofs.line.said_in.Goals as goal

pub returns-in-Err : goal.returns-in-Err
returns-in-Err c = λ _. no_text c.args.line.now c.args.line.now [] c.in-None.ensures.parts c.in-Err.ensures.cases.0

pub returns-in-Err-from_utf8 : goal.returns-in-Err-from_utf8
returns-in-Err-from_utf8 c = λ _.
    no_text c.args.line.now c.in-Some.word.now (parted 32 c.in-Some.others.now) c.in-Some.ensures.parts c.in-Err-from_utf8.ensures.cases.0

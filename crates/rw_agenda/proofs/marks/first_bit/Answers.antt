use Rattle.rw_base.proofs.Common.{arith}
use Rattle.rw_agenda.proofs.Words.{first_left, none_left}
use Rattle.rw_agenda.proofs.marks.first_bit.Goals as goal

pub returns-then-left-eq0 : goal.returns-then-left-eq0
returns-then-left-eq0 c = none_left c.args.word c.args.from c.if-left-eq0.true

pub returns-else-left-eq0 : goal.returns-else-left-eq0
returns-else-left-eq0 c =
    first_left c.args.word c.args.from (omega (arith, c.ranges.word.fits)) (omega (arith, c.if-left-eq0.false))

use Rattle.std.proofs.Common.{rules, arith}
use Rattle.rpl_parse.proofs.ScanFacts.{number_over}
use Rattle.rpl_parse.proofs.front.number_of.Goals as goal

pub returns-then-value-gt-GREATEST : goal.returns-then-value-gt-GREATEST
returns-then-value-gt-GREATEST c =
    number_over c.loop-digit.digit-index c.args.digits.now c.loop-digit.value _ _ c.loop-digit-test.true (search (rules, arith))
    c.loop-digit.invariant.same

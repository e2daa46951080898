use Rattle.std.proofs.Common.{arith}
use Rattle.rpl_code.proofs.NumbersTried.{number_spelt, number_outside}
use Rattle.rpl_code.proofs.numbers.number_in.Goals as goal
use Rattle.rpl_code.proofs.numbers.number_in.Goals.{else-least-number-via-then-least-number+else-number-most, else-least-number-via-else-least-number}

pub returns-then-number-most-clause-number : goal.returns-then-number-most-clause-number
returns-then-number-most-clause-number c =
    number_spelt c.args.least c.args.most c.in-Some.number c.args.word.now c.in-Some.ensures.digits
    (omega (arith, c.ranges.most.fits, c.if-number-most.true)) c.if-least-number.true c.if-number-most.true

pub returns-else-least-number-clause-number : goal.returns-else-least-number-clause-number
returns-else-least-number-clause-number c = λ _.
    number_outside c.args.least c.args.most c.in-Some.number c.args.word.now c.in-Some.ensures.digits c.in-Some.ensures.small c.ranges.most.fits
    (λ low high. elim c.else-least-number.branch [
      | else-least-number-via-then-least-number+else-number-most w ↦ omega
          (arith, high, w.if-number-most.false)
      | else-least-number-via-else-least-number w ↦ omega (arith, low, w.if-least-number.false)
    ])

use Rattle.rw_base.proofs.Common.{rules, sym, ◌∙◌}
use Rattle.rw_base.proofs.Digits.{all_read, too_large}
use Rattle.rw_base.proofs.digit.number_of.Goals as goal

pub returns-in-None : goal.returns-in-None
returns-in-None c = too_large c.args.text.now c.loop-byte.number c.loop-byte.byte-index (search rules) c.loop-byte.invariant.0
    (sym c.in-None.is ∙ c.with_digit.ensures.number)

pub returns : goal.returns
returns c = all_read c.args.text.now c.loop-byte.number c.loop-byte.byte-index (search rules) c.loop-byte.invariant.2 c.loop-byte.invariant.0 c.loop-byte.invariant.1

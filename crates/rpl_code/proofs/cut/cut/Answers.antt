use Rattle.rpl_code.proofs.Parted.{parted_found, parted_lacking}
use Rattle.rpl_code.proofs.cut.cut.Goals as goal

pub returns-then-other-byte-clause-parts : goal.returns-then-other-byte-clause-parts
returns-then-other-byte-clause-parts c =
    parted_found c.args.byte c.args.text.now c.loop-place.place c.loop-place-test.true c.if-other-byte.true c.loop-place.invariant

pub returns-clause-parts : goal.returns-clause-parts
returns-clause-parts c = parted_lacking c.args.byte c.args.text.now c.loop-place.place c.loop-place-test.false c.loop-place.invariant

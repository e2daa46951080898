use Rattle.rw_base.proofs.Common.{◌≡◌, ◌+◌, ◌<◌, ◌≤◌, ◌&&◌, length, if◌then◌else◌, ap, ◌∙◌, arith, nat_le}
use Rattle.rw_inputs.specs.Column.{value_in_column}
use Rattle.rw_inputs.proofs.Places.{more-set}
use Rattle.rw_inputs.proofs.column.keep.Goals as goal

pub loop-before-preserved : goal.loop-before-preserved
loop-before-preserved c =
    let from : c.args.first ≤ c.loop-before.before + 1 = omega (arith, c.loop-before.auto.before) in
    let near : c.loop-before.before + 1 < length c.loop-before.values =
    omega (arith, c.loop-before-test.true, c.requires.last, c.loop-before.auto.values) in
    rw (c.from.ensures, c.copy.ensures)
    (more-set c.loop-before.values c.args.values.now c.args.first c.loop-before.before c.args.kept.now from near c.loop-before.invariant)

pub returns : goal.returns
returns c step =
    let here : c.loop-before.before ≡ c.args.last = omega arith in
    c.loop-before.invariant step
    ∙ ap (λ last. if nat_le c.args.first step && nat_le step last then c.args.kept.now else value_in_column c.args.values.now step) here

use Rattle.rw_base.proofs.Common.{◌<◌, subst, arith, get_or_default}
use Rattle.rw_base.specs.declared.number.SlotNo.{SlotNo}
use Rattle.rw_series.proofs.Setting.{among_at, one-fresher}
use Rattle.rw_series.proofs.columns.earlier.Goals as goal

pub returns-then-slot-before : goal.returns-then-slot-before
returns-then-slot-before c = (among_at c.args.group.now c.loop-slot.slot-index (record { 0 = 0 }) c.loop-slot-test.true, c.if-slot-before.true)

pub loop-slot-preserved : goal.loop-slot-preserved
loop-slot-preserved c =
    one-fresher c.args.group.now c.args.before c.loop-slot.slot-index (record { 0 = 0 }) c.loop-slot.invariant (omega (arith, c.if-slot-before.false))

pub returns : goal.returns
returns c k d near =
    subst (λ (slot : SlotNo). c.args.before < slot.0) (get_or_default c.args.group.now k (record { 0 = 0 }) d near)
    (c.loop-slot.invariant k (omega (arith, near, c.loop-slot-test.false)))

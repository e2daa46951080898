use Rattle.rw_base.proofs.Common.{option_map, take}
use Rattle.rw_base.specs.declared.number.ObjectNo.{ObjectNo}
use Rattle.rw_model.specs.Kept.{numbers_of}
use Rattle.rw_run.specs.Waiting.{is_owner}
use Rattle.rw_dispatch.proofs.Owning.{slot-more}
use Rattle.rw_dispatch.proofs.owners.reach_slots.Goals as goal

pub loop-slot-preserved : goal.loop-slot-preserved
loop-slot-preserved c =
    slot-more (option_map (λ (other : ObjectNo). other.0) c.args.but) c.args.basin.now c.args.slots.now c.loop-slot.slot-index _
    c.reach_group.new.reached c.loop-slot-test.true
    (c.reach_group.ensures (is_owner c.args.basin.now (numbers_of (take c.loop-slot.slot-index c.args.slots.now))) c.loop-slot.invariant)

use Rattle.rw_base.proofs.Common.{◌≡◌, drop, list_any}
use Rattle.rw_base.specs.declared.number.SlotNo.{SlotNo}
use Rattle.rw_run.specs.Dispatch.{cell_at}
use Rattle.rw_record.specs.Noted.{is_noted}
use Rattle.rw_rerun.proofs.touched.is_one_among.Given as goal

abbrev pub invariant-loop-slot : goal.invariant-loop-slot
invariant-loop-slot l = list_any (λ (slot : SlotNo). is_noted l.looked (cell_at slot.0 l.step.0)) (drop l.slot-index l.slots)
    ≡ list_any (λ (slot : SlotNo). is_noted l.looked (cell_at slot.0 l.step.0)) l.slots

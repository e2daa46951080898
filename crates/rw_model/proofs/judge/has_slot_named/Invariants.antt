use Rattle.rw_base.proofs.Common.{◌≡◌, drop}
use Rattle.rw_model.specs.Draft.{has_slot_named}
use Rattle.rw_model.proofs.judge.has_slot_named.Given as goal

abbrev pub invariant-loop-slot : goal.invariant-loop-slot
invariant-loop-slot l = has_slot_named l.name (drop l.slot-index l.slots) ≡ has_slot_named l.name l.slots

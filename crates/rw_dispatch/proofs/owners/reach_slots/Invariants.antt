use Rattle.rw_dispatch.proofs.Common.{ObjectNo, option_map, take}
use Rattle.rw_model.specs.Kept.{numbers_of}
use Rattle.rw_run.specs.Waiting.{is_owner}
use Rattle.rw_dispatch.specs.Owners.{HasReached}
use Rattle.rw_dispatch.proofs.owners.reach_slots.Given as goal

abbrev pub invariant-loop-slot : goal.invariant-loop-slot
invariant-loop-slot l =
    HasReached (option_map (λ (other : ObjectNo). other.0) l.but) (is_owner l.basin (numbers_of (take l.slot-index l.slots))) l.reached

use Rattle.rw_dispatch.proofs.Common.{ObjectNo, option_map, take}
use Rattle.rw_run.specs.Waiting.{is_owner, slots_at}
use Rattle.rw_dispatch.specs.Owners.{HasReached}
use Rattle.rw_dispatch.proofs.owners.reach_writes.Given as goal

abbrev pub invariant-loop-write : goal.invariant-loop-write
invariant-loop-write l =
    HasReached (option_map (λ (other : ObjectNo). other.0) l.but) (is_owner l.basin (slots_at l.step.0 (take l.write-index l.writes))) l.reached

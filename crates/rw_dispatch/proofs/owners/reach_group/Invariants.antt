use Rattle.rw_dispatch.proofs.Common.{Bool, ObjectNo, list_any, option_map, take, ℕ, ◌==◌, ◌||◌}
use Rattle.rw_model.proofs.Common.{owner_of, numbers_of}
use Rattle.rw_dispatch.specs.Owners.{HasReached}
use Rattle.rw_dispatch.proofs.owners.reach_group.Given as goal

abbrev pub invariant-loop-other : goal.invariant-loop-other
invariant-loop-other l = (seen : ℕ → Bool) → HasReached (option_map (λ (other : ObjectNo). other.0) l.but) seen l.fn.reached
    → HasReached (option_map (λ (other : ObjectNo). other.0) l.but)
    (λ object. list_any (λ other. owner_of l.basin.objects other == object) (numbers_of (take l.other-index l.group)) || seen object) l.reached

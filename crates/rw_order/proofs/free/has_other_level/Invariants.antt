use Rattle.rw_base.proofs.Common.{◌≡◌, ◌==◌, ◌&&◌, drop, list_any, not}
use Rattle.rw_model.specs.Kept.{numbers_of}
use Rattle.rw_order.specs.Free.{is_level}
use Rattle.rw_order.proofs.free.has_other_level.Given as goal

abbrev pub invariant-loop-other : goal.invariant-loop-other
invariant-loop-other l =
    list_any (λ other. not (other == l.slot.0) && is_level l.basin.objects other) (numbers_of (drop l.other-index l.group))
    ≡ list_any (λ other. not (other == l.slot.0) && is_level l.basin.objects other) (numbers_of l.group)

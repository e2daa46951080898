use Rattle.rw_base.proofs.Common.{◌≡◌, ◌&&◌, false, list_any, range_with_len}
use Rattle.rw_order.specs.Free.{has_other_level, is_level}
use Rattle.rw_order.proofs.free.joins_levels.Given as goal

abbrev pub invariant-loop-before : goal.invariant-loop-before
invariant-loop-before l =
    list_any (λ slot. is_level l.basin.objects slot && has_other_level l.basin slot) (range_with_len 1 l.before) ≡ false

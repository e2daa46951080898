use Rattle.std.proofs.Common.{ap, rules}
use Rattle.rw_dispatch.specs.Queue.{objects_of}
use Rattle.rw_dispatch.proofs.Queues.{empty}
use Rattle.rw_dispatch.proofs.queue.Queue.for_basin.Goals as goal

pub invariant_of-result : goal.invariant_of-result
invariant_of-result c =
    empty _ _ _ _ _ (ap objects_of c.in_ok-items.ensures.items) c.in_ok-items.ensures.len (c.in_ok-waits.ensures.items_if_clones_equal (λ y e. e))
    (search rules) (search rules)

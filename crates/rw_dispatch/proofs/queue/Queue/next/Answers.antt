use Rattle.rw_dispatch.proofs.Queues.{first_taken, taken}
use Rattle.rw_dispatch.proofs.queue.Queue.next.Goals as goal

pub invariant_of-self-2 : goal.invariant_of-self-2
invariant_of-self-2 c =
    taken 0 _ _ _ _ _ _ c.in-Some.object.0 _ (first_taken _ _ _ c.in-Some.ensures.items) c.pop.ensures.capacity c.self.invariant c.in-Some.ensures.len

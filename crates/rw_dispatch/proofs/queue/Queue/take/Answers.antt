use Rattle.rw_dispatch.proofs.Common.{arith}
use Rattle.rw_dispatch.proofs.Queues.{taken, taken_known}
use Rattle.rw_dispatch.proofs.queue.Queue.take.Goals as goal

pub overflow_sub-object : goal.overflow_sub-object
overflow_sub-object c = (taken_known _ _ _ _ _ _ _ c.in-Some.ensures.items c.self.invariant).0

pub index_mut-requires : goal.index_mut-requires
index_mut-requires c =
    let known = taken_known _ _ _ _ _ _ _ c.in-Some.ensures.items c.self.invariant in
    let first = known.0 in
    let last = known.1 in
    let ok = c.self.inside.waits.ok.0 in omega (arith, first, last, ok)

pub invariant_of-self-2 : goal.invariant_of-self-2
invariant_of-self-2 c =
    taken _ _ _ _ _ _ _ c.in-Some.object.0 _ c.in-Some.ensures.items c.remove.ensures.capacity c.self.invariant c.in-Some.ensures.len

pub returns-clause-known : goal.returns-clause-known
returns-clause-known c = rw (← c.self.view_is) (taken_known _ _ _ _ _ _ _ c.in-Some.ensures.items c.self.invariant)

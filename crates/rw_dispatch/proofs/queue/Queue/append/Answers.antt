use Rattle.std.proofs.Common.{rules}
use Rattle.rw_dispatch.proofs.Queues.{has_room, pushed}
use Rattle.rw_dispatch.proofs.queue.Queue.append.Goals as goal

pub push-requires : goal.push-requires
push-requires c = has_room _ _ _ c.args.object _ c.self.invariant (search rules) (search rules) (search rules)

pub invariant_of-self : goal.invariant_of-self
invariant_of-self c =
    rw (c.push.ensures.items, c.push.ensures.capacity)
    (pushed _ _ _ _ c.args.object _ c.self.invariant (search rules) (search rules) (search rules) c.push.ensures.len)

use Rattle.rw_dispatch.proofs.Common.{Queue, ap, arith, false, get_or_default, length, ◌-◌, ◌<◌, ◌∙◌}
use Rattle.rw_dispatch.proofs.Queues.{waits_is}
use Rattle.rw_dispatch.proofs.queue.Queue.waits.Goals as goal

pub returns : goal.returns
returns c =
    let v = ap (λ (q : Queue). q.objects) c.self.view_is in
    let k : c.args.object - 1 < length c.self.inside.waits.items = omega arith in
    rw (← c.self.view_is) (c.index.ensures ∙ get_or_default c.self.inside.waits.items (c.args.object - 1) c.index.result.now false k
    ∙ waits_is _ _ _ c.args.object _ c.self.invariant c.requires.first)

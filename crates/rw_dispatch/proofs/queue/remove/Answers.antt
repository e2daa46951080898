use Rattle.rw_dispatch.proofs.Common.{arith, length, refl, ◌<◌}
use Rattle.rw_dispatch.proofs.Queues.{removed}
use Rattle.rw_dispatch.proofs.queue.remove.Goals as goal

pub returns-in-Some-clause-items : goal.returns-in-Some-clause-items
returns-in-Some-clause-items c =
    let below : c.args.place < length c.args.items.now.items = let near = c.in-Some.ensures.variant.0 refl in let ok =
    c.args.items.now.ok.0 in omega (arith, near, ok) in
    removed _ _ c.args.place c.in-Some.object c.in-Some.ensures.value c.in-Some.ensures.items below

use Rattle.rw_model.specs.Kept.{numbers_of}
use Rattle.rw_dispatch.proofs.queue.Queue.wake.Goals as goal

pub returns-clause-woken : goal.returns-clause-woken
returns-clause-woken c = c.wake_reached.ensures.woken (numbers_of c.args.slots.now) c.reach_slots.ensures

pub reach_slots-requires-clause-none : goal.reach_slots-requires-clause-none
reach_slots-requires-clause-none c = c.none-reached.ensures _

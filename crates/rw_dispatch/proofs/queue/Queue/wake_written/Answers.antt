use Rattle.rw_run.specs.Waiting.{slots_at}
use Rattle.rw_dispatch.proofs.queue.Queue.wake_written.Goals as goal

pub returns-clause-woken : goal.returns-clause-woken
returns-clause-woken c = c.wake_reached.ensures.woken (slots_at c.args.step.0 c.args.writes.now) c.reach_writes.ensures

pub reach_writes-requires-clause-none : goal.reach_writes-requires-clause-none
reach_writes-requires-clause-none c = c.none-reached.ensures _

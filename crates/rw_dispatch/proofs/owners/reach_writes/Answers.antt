use Rattle.rw_dispatch.proofs.Common.{ObjectNo, option_map, take}
use Rattle.rw_run.specs.Waiting.{slots_at}
use Rattle.rw_dispatch.proofs.Owning.{written-more}
use Rattle.rw_dispatch.proofs.owners.reach_writes.Goals as goal

pub loop-write-preserved : goal.loop-write-preserved
loop-write-preserved c =
    written-more (option_map (λ (other : ObjectNo). other.0) c.args.but) c.args.basin.now c.args.step.0 c.args.writes.now c.loop-write.write-index
    c.write-item.result
    c.reach_write.new.reached c.loop-write-test.true c.write-item.is
    (c.reach_write.ensures (slots_at c.args.step.0 (take c.loop-write.write-index c.args.writes.now)) c.loop-write.invariant)

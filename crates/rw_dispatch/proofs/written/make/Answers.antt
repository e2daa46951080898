use Rattle.rw_dispatch.proofs.Common.{drop, held, refl, ◌+◌}
use Rattle.rw_dispatch.proofs.Makes.{made_one, next-put}
use Rattle.rw_dispatch.proofs.written.make.Goals as goal

pub loop-write-preserved : goal.loop-write-preserved
loop-write-preserved c = record {
  putting = made_one c.args.basin.now (held c.args.series.now) (held c.loop-write.series) (held c.make_one.new.series) c.args.writes.now
      (drop c.loop-write.write-index c.args.writes.now) (drop (c.loop-write.write-index + 1) c.args.writes.now) c.write-item.result
      (next-put c.args.writes.now c.args.writes.now c.loop-write.write-index c.write-item.result refl c.loop-write-test.true c.write-item.is)
      c.make_one.ensures.cells c.loop-write.invariant.putting;
  made = c.make_one.ensures.made;
}

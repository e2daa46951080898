use Rattle.rw_dispatch.proofs.Makes.{AreBounded-put, put-set}
use Rattle.rw_dispatch.proofs.written.make_one.Goals as goal

pub returns-clause-cells : goal.returns-clause-cells
returns-clause-cells c = put-set c.args.basin.now c.args.write.now c.args.series.now c.restore.new.self c.restore.ensures.cells

pub returns-clause-made : goal.returns-clause-made
returns-clause-made c = record {
  made = c.restore.ensures.made;
  bounded = AreBounded-put c.args.basin.now c.args.write.now c.args.series.now c.restore.new.self c.requires.can.within c.requires.made.bounded
      c.restore.ensures.cells;
}

use Rattle.rw_series.specs.Series.{held}
use Rattle.rw_mrm.proofs.tally.Tally.add.Goals as goal

pub returns-in-Fault : goal.returns-in-Fault
returns-in-Fault c = rw c.in-Fault.is (c.count.ensures c.args.basin.now (held c.args.run.now.series))

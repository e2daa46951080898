use Rattle.rw_series.specs.Columns.{AreColumns}
use Rattle.rw_series.proofs.columns.columns_of.Given as goal

abbrev pub invariant-loop-before : goal.invariant-loop-before
invariant-loop-before l = AreColumns l.basin l.before l.width l.columns.items

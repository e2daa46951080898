use Rattle.std.proofs.Common.{◌≤◌, ◌-◌, ◌++◌, List, ℕ}
use Rattle.rw_io.specs.Handed.{IsOnItsWay}
use Rattle.rw_io.specs.Outside.{SinkView}
use Rattle.rw_series.specs.Series.{held}
use Rattle.rw_report.specs.Section.{for_each, row, values_in}
use Rattle.rw_report.proofs.handed.hand_rows.Given as goal

-- the lines so far were handed on
abbrev pub invariant-loop-before : goal.invariant-loop-before
invariant-loop-before g l =
    (l.before ≤ l.closed)
    × ((before : SinkView) (front : List ℕ) → IsOnItsWay before (g.K.Sink.seen l.fn.out) l.fn.gathered front
    → IsOnItsWay before (g.K.Sink.seen l.out) l.gathered (front ++ for_each (row l.basin (values_in (held l.series))) l.before))

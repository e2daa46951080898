use Rattle.std.proofs.Common.{◌≤◌, ◌-◌, ◌++◌, List, ℕ}
use Rattle.rw_io.specs.Handed.{IsOnItsWay}
use Rattle.rw_io.specs.Outside.{SinkView}
use Rattle.rw_series.specs.Series.{held}
use Rattle.rw_report.specs.Pieces.{words_at}
use Rattle.rw_report.specs.Section.{for_each}
use Rattle.rw_report.proofs.handed.hand_cells.Given as goal

-- the values so far were handed on
abbrev pub invariant-loop-first : goal.invariant-loop-first
invariant-loop-first g l =
    (l.first ≤ l.count)
    × ((before : SinkView) (front : List ℕ) → IsOnItsWay before (g.K.Sink.seen l.fn.out) l.fn.gathered front
    → IsOnItsWay before (g.K.Sink.seen l.out) l.gathered (front ++ for_each (words_at (held l.cells)) l.first))

abbrev pub decreases-loop-first : goal.decreases-loop-first
decreases-loop-first g l = l.count - l.first

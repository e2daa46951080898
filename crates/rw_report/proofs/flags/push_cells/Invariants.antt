use Rattle.std.proofs.Common.{◌≡◌, ◌≤◌, ◌-◌, ◌++◌, string_bytes}
use Rattle.rw_series.specs.Series.{held}
use Rattle.rw_report.specs.Section.{for_each}
use Rattle.rw_report.specs.Pieces.{flag_at}
use Rattle.rw_report.proofs.flags.push_cells.Given as goal

-- what is there and the values so far
abbrev pub invariant-loop-first : goal.invariant-loop-first
invariant-loop-first l =
    (l.first ≤ l.count) × (string_bytes l.text ≡ string_bytes l.fn.text ++ for_each (flag_at (held l.cells)) l.first)

abbrev pub decreases-loop-first : goal.decreases-loop-first
decreases-loop-first l = l.count - l.first

use Rattle.std.proofs.Common.{◌≡◌, ◌++◌, ◌≤◌, List, ℕ, string_bytes}
use Rattle.rw_series.specs.Series.{held}
use Rattle.rw_report.specs.Section.{for_each, row, values_in}
use Rattle.rw_report.proofs.table.push_rows.Given as goal

-- what is there and the lines so far
abbrev pub invariant-loop-before : goal.invariant-loop-before
invariant-loop-before l =
    (l.before ≤ l.fn.closed)
    × ((front back : List ℕ) → front ++ string_bytes l.fn.text ≡ back ++ for_each (row l.basin (values_in (held l.series))) l.fn.first
    → front ++ string_bytes l.text ≡ back ++ for_each (row l.basin (values_in (held l.series))) l.before)

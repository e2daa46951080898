use Rattle.std.proofs.Common.{◌≡◌, ◌++◌, string_bytes}
use Rattle.rw_series.specs.Series.{held}
use Rattle.rw_report.specs.Section.{for_each}
use Rattle.rw_report.specs.Flags.{flag_row}
use Rattle.rw_report.proofs.flags.push_rows.Given as goal

-- what is there and the lines so far
abbrev pub invariant-loop-before : goal.invariant-loop-before
invariant-loop-before l =
    string_bytes l.text ≡ string_bytes l.fn.text ++ for_each (flag_row l.basin (held l.series)) l.before

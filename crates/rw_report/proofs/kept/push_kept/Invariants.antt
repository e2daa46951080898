use Rattle.std.proofs.Common.{All, ◌≡◌, ◌≤◌, vec_len}
use Rattle.rw_series.specs.Series.{held}
use Rattle.rw_report.specs.Kept.{IsTold, TellFirst}
use Rattle.rw_report.specs.Section.{for_each, row, values_in}
use Rattle.rw_report.proofs.kept.push_kept.Given as goal

-- what is there and the lines so far, which are kept and tell what they do
abbrev pub invariant-loop-before : goal.invariant-loop-before
invariant-loop-before l =
    (l.text.items ≡ for_each (row l.basin (values_in (held l.series))) l.before)
    × (All (IsTold l.basin) l.lines.items × ((l.before ≤ vec_len l.lines) × (l.before ≤ l.fn.extent.kept
    × TellFirst l.basin (held l.series) l.before l.lines.items)))

use Rattle.std.proofs.Common.{◌≤◌}
use Rattle.rw_series.specs.Series.{held}
use Rattle.rw_report.specs.Kept.{TellFirst}
use Rattle.rw_report.proofs.kept.count_current.Given as goal

-- the lines so far tell what is held
abbrev pub invariant-loop-before : goal.invariant-loop-before
invariant-loop-before l = (l.before ≤ l.most) × TellFirst l.basin (held l.series) l.before l.lines

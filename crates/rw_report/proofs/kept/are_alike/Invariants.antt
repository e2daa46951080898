use Rattle.std.proofs.Common.{◌≡◌, take}
use Rattle.rw_series.specs.Series.{held}
use Rattle.rw_report.specs.Section.{values_in}
use Rattle.rw_report.specs.Sheet.{values_listed}
use Rattle.rw_report.proofs.kept.are_alike.Given as goal

-- the values so far are those of the slots
abbrev pub invariant-loop-before : goal.invariant-loop-before
invariant-loop-before l =
    take l.before l.values ≡ values_listed (λ slot. values_in (held l.fn.series) slot l.fn.step.0) l.before

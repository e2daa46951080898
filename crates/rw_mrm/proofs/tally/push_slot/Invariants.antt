use Rattle.rw_base.proofs.Common.{◌≡◌, ◌++◌, vec_capacity}
use Rattle.rw_series.specs.Series.{held}
use Rattle.rw_report.specs.Section.{values_in}
use Rattle.rw_mrm.specs.Tally.{listed_up_to}
use Rattle.rw_mrm.proofs.tally.push_slot.Given as goal

-- what was there and the values so far
abbrev pub invariant-loop-before : goal.invariant-loop-before
invariant-loop-before l =
    (l.values.items ≡ l.fn.values.items ++ listed_up_to (λ step. values_in (held l.series) l.slot.0 step) l.before)
    × (vec_capacity l.values ≡ vec_capacity l.fn.values)

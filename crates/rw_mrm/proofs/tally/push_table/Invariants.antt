use Rattle.rw_base.proofs.Common.{◌≡◌, ◌++◌, vec_capacity}
use Rattle.rw_series.specs.Series.{held}
use Rattle.rw_mrm.specs.Tally.{joined_up_to, slot_values}
use Rattle.rw_mrm.proofs.tally.push_table.Given as goal

-- what was there and the slots so far
abbrev pub invariant-loop-before : goal.invariant-loop-before
invariant-loop-before l =
    (l.values.items ≡ l.fn.values.items ++ joined_up_to (slot_values (held l.series) l.steps) l.before)
    × (vec_capacity l.values ≡ vec_capacity l.fn.values)

use Rattle.rw_record.proofs.Common.{◌≤◌}
use Rattle.rw_record.proofs.held_list.count_known.Given as goal

abbrev pub invariant-loop-one : goal.invariant-loop-one
invariant-loop-one l = l.count ≤ l.one-index

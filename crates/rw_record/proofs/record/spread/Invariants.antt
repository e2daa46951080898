use Rattle.rw_record.proofs.Common.{take, ◌≡◌}
use Rattle.rw_record.proofs.record.spread.Given as goal

abbrev pub invariant-loop-place : goal.invariant-loop-place
invariant-loop-place l = l.items.items ≡ take l.place l.list

use Rattle.rw_table.proofs.Common.{None, rows_refusal, ◌≡◌}
use Rattle.rw_table.proofs.fault.judge_rows.Given as goal

abbrev pub invariant-loop-place : goal.invariant-loop-place
invariant-loop-place l = rows_refusal l.rows l.place ≡ None

use Rattle.rw_base.proofs.Common.{drop, length, ◌++◌, ◌≡◌, ◌≤◌}
use Rattle.rw_series.specs.Series.{held}
use Rattle.rw_writes.specs.Writes.{written_puts}
use Rattle.rw_writes.proofs.passed.keep_written.Given as goal

abbrev pub invariant-loop-place : goal.invariant-loop-place
invariant-loop-place l = record {
  room : l.written.cap ≡ l.fn.written.cap;
  few : length l.written.items ≤ l.place;
  kept : l.written.items ++ written_puts l.basin (held l.series) (drop l.place l.asked) ≡ written_puts l.basin (held l.series) l.asked;
}

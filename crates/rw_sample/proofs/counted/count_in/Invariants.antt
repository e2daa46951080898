use Rattle.rw_base.proofs.Common.{◌≡◌, ◌≤◌, ◌+◌, drop}
use Rattle.rw_run.specs.Trace.{lines_in}
use Rattle.rw_sample.specs.Line.{lines_counted}
use Rattle.rw_sample.proofs.counted.count_in.Given as goal

-- the count and that of the lines that are left are the whole
abbrev pub invariant-loop-place : goal.invariant-loop-place
invariant-loop-place l = record {
  whole : l.count + lines_counted l.counted (drop l.place (lines_in l.trace)) ≡ lines_counted l.counted (lines_in l.trace);
  few : l.count ≤ l.place;
}

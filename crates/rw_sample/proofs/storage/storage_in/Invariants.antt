use Rattle.rw_base.proofs.Common.{◌≡◌}
use Rattle.rw_series.specs.Series.{held}
use Rattle.rw_sample.specs.Line.{IsSumOf, stored_in, sum_to}
use Rattle.rw_sample.proofs.storage.storage_in.Given as goal

abbrev pub invariant-loop-before : goal.invariant-loop-before
invariant-loop-before l = record {
  so_far : l.sum ≡ sum_to (stored_in l.basin (held l.series) l.step.0) l.before;
  bound : IsSumOf l.before l.sum;
}

use Rattle.std.proofs.Common.{ℕ, ◌<◌, slice_index_or}
use Rattle.rw_series.proofs.columns.earlier.Given as goal

abbrev pub invariant-loop-slot : goal.invariant-loop-slot
invariant-loop-slot l = (k : ℕ) → k < l.slot-index → l.before < (slice_index_or l.group k (record { 0 = 0 })).0

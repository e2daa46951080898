use Rattle.rw_series.specs.Series.{IsSeriesOf}
use Rattle.rw_call_tests.proofs.shared.series_of.Given as goal

-- the series is one of the basin
abbrev pub invariant-loop-k : goal.invariant-loop-k
invariant-loop-k g l = IsSeriesOf l.basin l.series

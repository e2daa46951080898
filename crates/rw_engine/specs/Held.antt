-- Within the crate: what a series holds of a log.
use Rattle.std.specs.Prelude.{◌≡◌}
use Rattle.rw_base.specs.declared.number.Cell.{Cell}
use Rattle.rw_model.specs.Draft.{Draft}
use Rattle.rw_series.specs.Series.{Series, held}
use Rattle.rw_run.specs.Log.{Log, cells_of}

-- it holds what the cells hold after the log
abbrev pub HoldsAll : Draft → Series → Log → Type 0
HoldsAll basin series log = (cell : Cell) → held series cell ≡ cells_of basin log cell

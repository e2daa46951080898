-- What may be written.
use Rattle.std.specs.Prelude.{List, All}
use Rattle.rw_model.specs.Draft.{Draft}
use Rattle.rw_model.specs.Links.{IsBetween, bounds_in}
use Rattle.rw_series.specs.Series.{IsCell}
use Rattle.rw_run.specs.Log.{Asked}

-- to a cell of the run, of a value that its slot can have
pub record CanWrite (basin : Draft) (put : Asked) : Type 0 where
  pub cell : IsCell basin put.cell
  pub within : IsBetween (bounds_in basin.objects basin.links basin.bounds put.cell.slot.0) put.content.value

abbrev pub AreWrites : Draft → List Asked → Type 0
AreWrites basin puts = All (CanWrite basin) puts

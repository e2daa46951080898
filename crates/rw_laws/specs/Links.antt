-- The law of links: slots that carry one value hold one content.
use Rattle.std.specs.Prelude.{◌≡◌, IsTrue}
use Rattle.rw_base.specs.declared.number.Cell.{Cell}
use Rattle.rw_model.specs.Draft.{Draft}
use Rattle.rw_series.specs.Series.{IsCell, is_shared}
use Rattle.rw_run.specs.Log.{Cells}

-- all cells of a link group are held alike: value, number and writer, or unknown
abbrev pub HoldAsLinked : Draft → Cells → Type 0
HoldAsLinked basin cells = (cell other : Cell) → IsCell basin cell → IsTrue (is_shared basin cell other) → cells cell ≡ cells other

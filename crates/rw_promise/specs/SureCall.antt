-- A call over a shelf and an output that never fail.
use Rattle.std.specs.Prelude.{◌≡◌}
use Rattle.rw_io.specs.Outside.{change}
use Rattle.rw_io.specs.Sure.{shelf_seen, sink_seen}
use Rattle.rw_io.specs.declared.sure_shelf.SureShelf.{SureShelf}
use Rattle.rw_io.specs.declared.sure_sink.SureSink.{SureSink}
use Rattle.rw_commands.specs.Call.{Call}

-- its shelf is a sure one, and so is its output
pub record IsSure (call : Call) : Type 0 where
  pub shelf : SureShelf
  pub shelf_after : SureShelf
  pub out : SureSink
  pub out_after : SureSink
  pub shelf_is : call.shelf ≡ change (shelf_seen shelf) (shelf_seen shelf_after)
  pub out_is : call.out ≡ change (sink_seen out) (sink_seen out_after)

use Rattle.rw_base.proofs.Common.{option_map}
use Rattle.rw_method.specs.Puts.{evaporation_put, release_puts}
use Rattle.rw_method.specs.Asking.{can_get}
use Rattle.rw_method.proofs.Misfits.{asks_at_once, asks_then}
use Rattle.rw_reservoir.proofs.puts.ask_derived.Goals as goal

pub returns-in-Ok : goal.returns-in-Ok
returns-in-Ok c = record { asks = asks_then _ _ _ _ _ _ _ c.in-Ok.ensures.asks.added c.in-Ok.ensures.asks.fits c.ask_release.ensures.asks }

pub returns-in-Err : goal.returns-in-Err
returns-in-Err c = record {
  asks =
      asks_at_once (can_get (option_map (λ rating. rating.now) c.args.table) c.args.view.now) (evaporation_put c.args.evaporation c.args.evaporated)
      (release_puts c.args.max_release c.args.outflow) _ _ c.in-Err.answer c.in-Err.ensures.asks.refused;
}

use Rattle.rw_base.proofs.Common.{option_map}
use Rattle.rw_method.specs.declared.places.TheConstants.{POOL_ELEVATION, STORAGE}
use Rattle.rw_method.specs.View.{given}
use Rattle.rw_method.specs.Puts.{solved_put, level_puts}
use Rattle.rw_method.specs.Asking.{can_get}
use Rattle.rw_method.proofs.Misfits.{asks_at_once, asks_then}
use Rattle.rw_reservoir.proofs.puts.ask_contents.Goals as goal

pub returns-in-Ok-clause-asks : goal.returns-in-Ok-clause-asks
returns-in-Ok-clause-asks c =
    let asks = rw (c.given.ensures, c.given-in-Ok.ensures) at c.ask_level.ensures.asks in
    asks_then _ _ _ _ _ _ _ c.in-Ok.ensures.asks.added c.in-Ok.ensures.asks.fits asks

pub returns-in-Err-clause-asks : goal.returns-in-Err-clause-asks
returns-in-Err-clause-asks c =
    let view = c.args.view.now in
    asks_at_once (can_get (option_map (λ rating. rating.now) c.args.table) view) (solved_put c.args.balanced)
    (level_puts (option_map (λ rating. rating.now) c.args.table) (given view STORAGE) (given view POOL_ELEVATION) c.args.balanced) _ _ c.in-Err.answer
    c.in-Err.ensures.asks.refused

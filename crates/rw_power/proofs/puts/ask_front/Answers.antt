use Rattle.rw_base.proofs.Common.{Bool, List, Some}
use Rattle.rw_method.specs.declared.places.TheConstants.{POOL_ELEVATION, STORAGE}
use Rattle.rw_method.specs.declared.put.Put.{Put}
use Rattle.rw_method.specs.Asking.{can_get}
use Rattle.rw_method.specs.Puts.{flow_puts, level_puts}
use Rattle.rw_method.specs.View.{given}
use Rattle.rw_method.proofs.Misfits.{refused_later}
use Rattle.rw_power.proofs.Parts.{asks_front, solved_fits}
use Rattle.rw_power.proofs.puts.ask_front.Goals as goal

pub returns-in-Err-clause-asks : goal.returns-in-Err-clause-asks
returns-in-Err-clause-asks c = asks_front _ _ _ _ _ _ _ c.in-Err.ensures.asks

pub ask_level-requires-clause-fits : goal.ask_level-requires-clause-fits
ask_level-requires-clause-fits c =
    let fit : Put → Bool = can_get (Some c.args.rating.now) c.args.view.now in
    solved_fits fit c.args.asked c.args.terms.now c.args.balanced c.in_default.ensures.asks.fits

pub returns-in-Err-ask_level-clause-asks : goal.returns-in-Err-ask_level-clause-asks
returns-in-Err-ask_level-clause-asks c =
    let fit : Put → Bool = can_get (Some c.args.rating.now) c.args.view.now in
    let flows : List Put = flow_puts c.args.asked c.args.terms.now c.args.balanced in
    let level : List Put =
    level_puts (Some c.args.rating.now) (given c.args.view.now STORAGE) (given c.args.view.now POOL_ELEVATION) c.args.balanced in
    let asks = rw (c.given-storage.ensures, c.given-elevation.ensures) at c.in-Err-ask_level.ensures.asks in
    record { added = tt; fits = tt; refused = refused_later fit flows level c.in-Err-ask_level.answer c.in_default.ensures.asks.fits asks.refused }

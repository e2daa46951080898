use Rattle.rw_inputs.specs.Placings.{placings}
use Rattle.rw_laws.proofs.law.every_pick.Goals as goal

pub returns : goal.returns
returns c = λ basin policy rule inputs run valid promise comes.
    c.every_order.ensures basin policy (placings basin inputs) comes.log run valid promise
    (record { events = comes.whole.events; leads = comes.any }) comes.is

use Rattle.rw_laws.proofs.Common.{with_inputs, []}
use Rattle.rw_laws.proofs.law.every_run.Goals as goal

pub returns : goal.returns
returns c = λ basin policy inputs log table valid promise run comes. c.every_order.ensures basin policy inputs log table valid promise
    (record { events = run.events; leads = c.choices.ensures.events basin policy (with_inputs [] inputs) run.events log run.leads }) comes

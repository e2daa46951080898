use Rattle.rw_laws.proofs.Common.{with_inputs, []}
use Rattle.rw_laws.proofs.Laws.{priority}
use Rattle.rw_laws.proofs.law.priority.Goals as goal

pub returns : goal.returns
returns c = λ basin policy inputs log valid promise run. priority basin policy inputs log valid promise
    (record { events = run.events; leads = c.choices.ensures.events basin policy (with_inputs [] inputs) run.events log run.leads })

use Rattle.rw_laws.proofs.Common.{with_inputs, []}
use Rattle.rw_laws.proofs.Laws.{closed_stay}
use Rattle.rw_laws.proofs.law.closed_timesteps_stay.Goals as goal

pub returns : goal.returns
returns c = λ basin policy inputs log before step valid promise run closes. closed_stay basin policy inputs log before step valid promise
    (record { events = run.events; leads = c.choices.ensures.events basin policy (with_inputs [] inputs) run.events log run.leads }) closes

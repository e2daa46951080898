use Rattle.rw_base.proofs.Common.{subst, sym, []}
use Rattle.rw_method.specs.Balanced.{IsBalanced}
use Rattle.rw_run.specs.Log.{cells_of}
use Rattle.rw_run.specs.RunOf.{last_closed}
use Rattle.rw_run.specs.Runs.{with_inputs}
use Rattle.rw_laws.proofs.Closed.{closings}
use Rattle.rw_laws.proofs.Staying.{same_view}
use Rattle.rw_book_laws.proofs.Closing.{books_close}
use Rattle.rw_book_laws.proofs.law.every_book_of_events.Goals as goal

pub returns : goal.returns
returns c = λ basin policy inputs log valid promise run.
    books_close basin (cells_of basin log) (last_closed log) valid (λ step first last.
    let closing =
    closings basin valid policy promise inputs log
    (record { events = run.events; leads = c.choices.ensures.events basin policy (with_inputs [] inputs) run.events log run.leads })
    step first last
    in
    λ object kind own.
    subst (IsBalanced kind) (sym (same_view basin (cells_of basin log) (cells_of basin closing.0) object step
    (λ cell low. c.closed_timesteps_stay.ensures basin policy inputs log closing.0 step valid promise run closing.1 cell low)))
    (c.balance.ensures basin policy inputs log closing.0 step valid promise run closing.1 object kind own))

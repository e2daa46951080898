use Rattle.rw_commands.proofs.BalanceText.{books_by}
use Rattle.rw_commands.proofs.balance.balance_by_code.Goals as goal

pub returns : goal.returns
returns g c = λ policy means.
    books_by c.args.setup.now.basin.now policy c.args.inputs.now c.in_ok-run.run' _
    (means.comes c.args.inputs.now c.in_ok-run.run' c.in_ok-run.ensures.run) c.in_ok-text.ensures.text

pub run_all_of-requires-clause-can : goal.run_all_of-requires-clause-can
run_all_of-requires-clause-can g c = record { fits = c.requires.fits; inputs = c.requires.inputs }

use Rattle.rw_commands.proofs.Common.{refl}
use Rattle.rw_commands.proofs.WhyText.{why_by}
use Rattle.rw_commands.proofs.why.why_by_code.Goals as goal

pub returns : goal.returns
returns g c = λ policy means.
    why_by c.texts_of_runs.ensures.why c.args.setup.now.basin.now policy c.args.inputs.now c.args.cell c.in_ok-run.run' _
    (means.comes c.args.inputs.now c.in_ok-run.run' c.in_ok-run.ensures.run) (c.in_ok-run.ensures.kept refl) c.in_ok-text.ensures.text

pub run_all_of-requires-clause-can : goal.run_all_of-requires-clause-can
run_all_of-requires-clause-can g c = record { fits = c.requires.fits; inputs = c.requires.inputs }

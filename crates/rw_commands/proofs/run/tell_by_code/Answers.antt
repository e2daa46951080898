use Rattle.rw_commands.proofs.RulesText.{of_basin, section_by, untold}
use Rattle.rw_commands.specs.RunText.{policy_in_run}
use Rattle.rw_base.proofs.Common.{None, arith}
use Rattle.rw_commands.proofs.run.tell_by_code.Goals as goal

pub tell-requires-clause-closed : goal.tell-requires-clause-closed
tell-requires-clause-closed g c = rw c.requires.sheet c.in_ok-run.ensures.closed

pub tell-requires-clause-same : goal.tell-requires-clause-same
tell-requires-clause-same g c = λ before values near there. absurd (omega (arith, near))

pub returns-clause-text : goal.returns-clause-text
returns-clause-text g c = λ policy before means.
    let basin = c.args.setup.now.basin.now in
    let comes = means.comes c.args.inputs.now c.in_ok-run.run' c.in_ok-run.ensures.run in
    section_by c.texts_of_runs.ensures.whole basin policy c.args.extras None c.args.number (record { before = before; inputs = c.args.inputs.now })
    c.in_ok-run.run' _ comes c.in_ok-run.ensures.kept c.requires.silent
    (untold basin (policy_in_run basin policy) c.args.extras.reuse (record { before = before; inputs = c.args.inputs.now }) comes.log
    c.requires.plain)
    (of_basin c.args.sheet.now.basin basin c.args.number c.in_ok-run.run' None c.args.extras _ c.requires.sheet c.in_ok-tell.ensures.text)

pub run_all_of-requires-clause-can : goal.run_all_of-requires-clause-can
run_all_of-requires-clause-can g c = record { fits = c.requires.fits; inputs = c.requires.inputs }

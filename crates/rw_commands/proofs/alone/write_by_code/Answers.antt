use Rattle.rw_base.proofs.Common.{None, refl}
use Rattle.rw_io.specs.Outside.{change}
use Rattle.rw_commands.specs.RunText.{IsRulesText, policy_in_run}
use Rattle.rw_commands.specs.Sections.{GivenInputs}
use Rattle.rw_commands.proofs.OneSection.{told_one}
use Rattle.rw_commands.proofs.RulesText.{section_by, untold}
use Rattle.rw_commands.proofs.alone.write_by_code.Goals as goal

pub run_all_of-requires-clause-can : goal.run_all_of-requires-clause-can
run_all_of-requires-clause-can g c = record { fits = c.requires.fits; inputs = c.requires.inputs }

pub returns-in-Ok : goal.returns-in-Ok
returns-in-Ok g c = λ policy before means.
    let basin = c.args.setup.now.basin.now in
    let given : GivenInputs = record { before = before; inputs = c.args.inputs.now } in
    let comes = means.comes c.args.inputs.now c.in-Ok.run' c.in-Ok.ensures.run in
    told_one (IsRulesText basin policy c.args.extras) 0 given (change (g.K.Sink.seen c.args.out.now) (g.K.Sink.seen c.write_run.new.out))
    c.in-Ok.run'.end _
    (section_by c.texts_of_runs.ensures.whole basin policy c.args.extras None 0 given c.in-Ok.run' _ comes c.in-Ok.ensures.kept c.requires.silent
    (untold basin (policy_in_run basin policy) c.args.extras.reuse given comes.log c.requires.plain) refl)
    c.write_run.result c.write_run.ensures.end c.write_run.ensures.text

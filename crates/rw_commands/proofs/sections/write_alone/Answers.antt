use Rattle.rw_commands.proofs.Common.{None, change}
use Rattle.rw_commands.specs.RunText.{IsRulesText}
use Rattle.rw_commands.specs.Sections.{first_given}
use Rattle.rw_commands.proofs.OneSection.{is_all}
use Rattle.rw_commands.proofs.sections.write_alone.Goals as goal

pub returns : goal.returns
returns g c = λ policy means.
    is_all (IsRulesText c.args.setup.now.basin.now policy c.args.extras) 0 (first_given c.args.inputs)
    (change (g.K.Sink.seen c.args.out.now) (g.K.Sink.seen c.write_by_code.new.out)) c.write_by_code.result
    (c.write_by_code.ensures policy None means)

use Rattle.rw_commands.proofs.Common.{command_said}
use Rattle.rw_commands.proofs.SampleText.{was_made}
use Rattle.rw_commands.proofs.files.make_text.Goals as goal

pub returns-in-Ok : goal.returns-in-Ok
returns-in-Ok c = λ shelf.
    was_made (command_said c.args.command.now) shelf.before.holds c.args.file c.in-Ok.text.items c.args.seed c.requires.named c.in-Ok.ensures

use Rattle.rw_commands.proofs.Common.{None}
use Rattle.rw_commands.proofs.sections.write_on_sheet.Goals as goal

pub returns : goal.returns
returns g c = λ policy means. c.write_from.ensures policy None means

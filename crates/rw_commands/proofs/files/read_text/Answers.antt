use Rattle.rw_commands.proofs.Common.{change}
use Rattle.rw_commands.proofs.files.read_text.Goals as goal

pub returns-in-Sample-clause-read : goal.returns-in-Sample-clause-read
returns-in-Sample-clause-read g c = c.make_text.ensures (change (g.S.Shelf.seen c.args.shelf.now) (g.S.Shelf.seen c.args.shelf.now))

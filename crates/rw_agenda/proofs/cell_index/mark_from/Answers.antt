use Rattle.rw_base.proofs.Common.{arith, length}
use Rattle.rw_agenda.proofs.Marking.{unmet}
use Rattle.rw_agenda.proofs.cell_index.mark_from.Goals as goal

pub returns-else-past-newest : goal.returns-else-past-newest
returns-else-past-newest c =
    unmet c.args.watches.now c.args.past (length c.args.watches.now) c.args.newest c.args.step c.args.marks.now (omega arith)

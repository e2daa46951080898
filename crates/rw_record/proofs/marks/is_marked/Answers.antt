use Rattle.rw_record.proofs.Common.{arith}
use Rattle.rw_record.proofs.Marking.{near}
use Rattle.rw_record.proofs.marks.is_marked.Goals as goal

pub bounds-marks-position : goal.bounds-marks-position
bounds-marks-position c =
    omega (arith, near c.args.slots c.args.steps c.args.marks.now c.args.cell c.requires.many c.requires.there, c.position.ensures)

use Rattle.rw_record.proofs.Common.{arith, rules, ◌≤◌}
use Rattle.rw_record.proofs.Marking.{row_fits}
use Rattle.rw_record.proofs.cell_notes.CellNotes.marks_at.Goals as goal

pub row_of-requires-clause-last : goal.row_of-requires-clause-last
row_of-requires-clause-last c =
    let last : c.args.step.0 ≤ c.self.inside.steps = search (rules, arith) in
    row_fits c.self.inside.slots c.self.inside.steps c.args.step.0 _ (search rules) last

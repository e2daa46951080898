use Rattle.rw_record.proofs.Common.{Some, held, take, with_noted, ◌≡◌}
use Rattle.rw_record.specs.Noted.{row_cells}
use Rattle.rw_record.proofs.cell_notes.CellNotes.add_row.Given as goal

abbrev pub invariant-loop-number : goal.invariant-loop-number
invariant-loop-number l =
    Some l.self ≡ with_noted (held l.series) (row_cells l.step.0 (take l.number-index l.numbers)) (Some l.fn.self)

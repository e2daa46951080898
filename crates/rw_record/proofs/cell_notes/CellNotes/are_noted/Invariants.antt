use Rattle.rw_record.proofs.Common.{is_noted, take, true, ◌≡◌}
use Rattle.std.specs.List.{list_all}
use Rattle.rw_record.specs.Noted.{row_cells}
use Rattle.rw_record.proofs.cell_notes.CellNotes.are_noted.Given as goal

abbrev pub invariant-loop-number : goal.invariant-loop-number
invariant-loop-number l = list_all (is_noted l.self) (row_cells l.step.0 (take l.number-index l.numbers)) ≡ true

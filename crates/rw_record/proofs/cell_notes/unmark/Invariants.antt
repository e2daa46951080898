use Rattle.rw_record.proofs.Common.{drop}
use Rattle.rw_record.specs.Marks.{KeepsMarks}
use Rattle.rw_record.proofs.cell_notes.unmark.Given as goal

abbrev pub invariant-loop-one : goal.invariant-loop-one
invariant-loop-one l = KeepsMarks l.slots l.steps l.marks.items (drop l.one-index l.items)

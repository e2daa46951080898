use Rattle.rw_record.proofs.Common.{[], rules, subst, sym, ◌≡◌}
use Rattle.rw_record.specs.Marks.{KeepsMarks}
use Rattle.rw_record.proofs.Marking.{no_marks}
use Rattle.rw_record.proofs.cell_notes.CellNotes.unmarked.Goals as goal

pub invariant_of-result : goal.invariant_of-result
invariant_of-result c =
    let marks : c.new.result.items ≡ [] = search rules in
    let items : c.new-2.result.items ≡ [] = search rules in
    subst (λ them. KeepsMarks 0 0 them c.new-2.result.items) (sym marks) (subst (KeepsMarks 0 0 []) (sym items) (no_marks 0 0))

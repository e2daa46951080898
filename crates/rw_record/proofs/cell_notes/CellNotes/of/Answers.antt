use Rattle.rw_record.proofs.Common.{[], false, replicate, rules, subst, sym, ◌*◌, ◌≡◌}
use Rattle.rw_record.specs.Marks.{KeepsMarks}
use Rattle.rw_record.proofs.Marking.{no_marks}
use Rattle.rw_record.proofs.cell_notes.CellNotes.of.Goals as goal

pub invariant_of-result : goal.invariant_of-result
invariant_of-result c =
    let slots = c.args.slots in
    let steps = c.args.steps in
    let marks : c.in_ok-marks.marks.items ≡ replicate (slots * steps) false = search rules in
    let items : c.new.result.items ≡ [] = search rules in
    subst (λ them. KeepsMarks slots steps them c.new.result.items) (sym marks)
    (subst (KeepsMarks slots steps (replicate (slots * steps) false)) (sym items) (no_marks slots steps))

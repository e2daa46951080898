use Rattle.rw_record.proofs.Common.{IsTrue, [], ap, false, held, is_noted, length, noted_after, rules, subst, sym, true, ◌*◌, ◌∙◌, ◌∷◌, ◌≡◌}
use Rattle.rw_record.specs.Marks.{KeepsMarks, has_mark, is_cell_marked}
use Rattle.rw_record.proofs.Marking.{one_added}
use Rattle.rw_record.proofs.cell_notes.CellNotes.add.Goals as goal

pub invariant_of-self-2 : goal.invariant_of-self-2
invariant_of-self-2 c =
    let slots = c.self.inside.slots in
    let steps = c.self.inside.steps in
    let items = c.self.inside.items.items in
    let cells = held c.args.series.now in
    let it : c.has_mark.result ≡ true = search rules in
    let there : IsTrue (has_mark slots steps c.args.cell) = sym c.has_mark.ensures ∙ it in
    let fresh : is_noted items c.args.cell ≡ false =
    sym (c.self.invariant.marked c.args.cell there)
    ∙ ap (λ marks. is_cell_marked slots marks c.args.cell) (sym c.as_slice.ensures.value) ∙ sym c.is_marked.ensures
    ∙ c.if-is_marked.false in
    let added : c.push_held.new.items.items ≡ noted_after cells items (c.args.cell ∷ []) = rw fresh c.in_ok-push_held.ensures.pushed in
    let many : length c.set_mark.new.marks.items ≡ slots * steps = search rules in
    subst (KeepsMarks slots steps c.set_mark.new.marks.items) (sym added)
    (one_added slots steps c.self.inside.marks.items c.set_mark.new.marks.items cells items c.args.cell c.self.invariant fresh many
    c.set_mark.ensures.set)

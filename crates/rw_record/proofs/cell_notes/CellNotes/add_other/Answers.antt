use Rattle.rw_record.proofs.Common.{[], ap, false, held, is_noted, length, noted_after, rules, subst, sym, ◌*◌, ◌∙◌, ◌∷◌, ◌≡◌}
use Rattle.rw_record.specs.Marks.{KeepsMarks}
use Rattle.rw_record.proofs.Marking.{one_added}
use Rattle.rw_record.proofs.cell_notes.CellNotes.add_other.Goals as goal

pub invariant_of-self-2 : goal.invariant_of-self-2
invariant_of-self-2 c =
    let slots = c.self.inside.slots in
    let steps = c.self.inside.steps in
    let items = c.self.inside.items.items in
    let cells = held c.args.series.now in
    let fresh : is_noted items c.args.cell ≡ false =
    ap (λ noted. is_noted noted c.args.cell) c.self.view_is ∙ sym c.is_noted.ensures ∙ c.if-is_noted.false in
    let added : c.push_held.new.items.items ≡ noted_after cells items (c.args.cell ∷ []) = rw fresh c.in_ok-push_held.ensures.pushed in
    let many : length c.mark_if.new.marks.items ≡ slots * steps = search rules in
    subst (KeepsMarks slots steps c.mark_if.new.marks.items) (sym added)
    (one_added slots steps c.self.inside.marks.items c.mark_if.new.marks.items cells items c.args.cell c.self.invariant fresh many
    c.mark_if.ensures.set)

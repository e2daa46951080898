use Rattle.rw_record.proofs.Common.{Held, List, ap, drop, drop_more, length, rules, subst, sym, ◌*◌, ◌+◌, ◌∙◌, ◌∷◌, ◌≡◌}
use Rattle.rw_record.specs.Marks.{KeepsMarks}
use Rattle.rw_record.proofs.Marking.{first_taken}
use Rattle.rw_record.proofs.cell_notes.unmark.Goals as goal

pub loop-one-preserved : goal.loop-one-preserved
loop-one-preserved c =
    let items : List Held = c.args.items.now in
    let at = c.loop-one.one-index in
    let one = c.one-item.result in
    let here : drop at items ≡ one ∷ drop (at + 1) items =
    drop_more items at one c.loop-one-test.true ∙ ap (λ (first : Held). first ∷ drop (at + 1) items) (sym c.one-item.is) in
    let many : length c.mark_if.new.marks.items ≡ c.args.slots * c.args.steps = search rules in
    first_taken c.args.slots c.args.steps c.loop-one.marks.items c.mark_if.new.marks.items one (drop (at + 1) items)
    (subst (KeepsMarks c.args.slots c.args.steps c.loop-one.marks.items) here c.loop-one.invariant) many c.mark_if.ensures.set

use Rattle.rw_base.proofs.Common.{◌≡◌, ◌+◌, ◌++◌, ◌∷◌, ◌∙◌, ap, append_assoc, drop, drop_more, flat_map, sym}
use Rattle.rw_rerun.specs.Edited.{cells_changed}
use Rattle.rw_rerun.proofs.touched.add_edits.Goals as goal

pub loop-edit-preserved : goal.loop-edit-preserved
loop-edit-preserved c =
    let at = c.loop-edit.edit-index in
    let edits = c.args.edits.now in
    let named = cells_changed c.args.basin.now c.args.inputs.now in
    let rest : drop at edits ≡ c.edit-item.result ∷ drop (at + 1) edits =
    drop_more edits at c.edit-item.result c.loop-edit-test.true ∙ ap (λ edit. edit ∷ drop (at + 1) edits) (sym c.edit-item.is) in
    ap (λ items. items ++ flat_map named (drop (at + 1) edits)) c.in_ok-add_edit.ensures
    ∙ append_assoc c.loop-edit.cells.items (named c.edit-item.result) (flat_map named (drop (at + 1) edits))
    ∙ ap (λ left. c.loop-edit.cells.items ++ flat_map named left) (sym rest)
    ∙ c.loop-edit.invariant

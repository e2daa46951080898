use Rattle.rw_base.proofs.Common.{◌≡◌, ◌++◌, ◌∙◌, ap, flat_map, subst, sym}
use Rattle.rw_rerun.specs.Edited.{AreEdited, cells_changed}
use Rattle.rw_rerun.proofs.Edited.{given_alike, given_anew, untouched_first}
use Rattle.rw_rerun.proofs.Named.{are_edited}
use Rattle.rw_rerun.proofs.touched.edited.Goals as goal

pub returns : goal.returns
returns c =
    let named = cells_changed c.args.basin.now c.args.inputs.now in
    subst (AreEdited c.args.basin.now c.args.batch.now c.args.inputs.now)
    (sym (c.in_ok-add_edits.ensures ∙ ap (λ items. items ++ flat_map named c.edits.result.now) c.new-cells.ensures.items
    ∙ ap (flat_map named) c.edits.ensures))
    (are_edited c.args.basin.now c.args.batch.now c.requires.batch c.args.inputs.now c.requires.inputs)

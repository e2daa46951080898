use Rattle.rw_base.proofs.Common.{◌+◌, ◌++◌, ◌∷◌, ◌∙◌, Bool, [], ap, append_assoc, filter, filter-append, map, map-range_with_len_more, range_with_len}
use Rattle.rw_base.proofs.Common.{refl, sym}
use Rattle.rw_base.specs.declared.number.Cell.{Cell}
use Rattle.rw_run.specs.Dispatch.{cell_at}
use Rattle.rw_rerun.specs.Edited.{gives_another}
use Rattle.rw_rerun.proofs.touched.add_cells.Goals as goal

pub loop-behind-preserved : goal.loop-behind-preserved
loop-behind-preserved c =
    let at = c.args.first + c.loop-behind.behind in
    let test : Cell → Bool = gives_another c.args.inputs.now c.args.value.now in
    let before = map (cell_at c.args.slot.0) (range_with_len c.args.first c.loop-behind.behind) in
    c.in_ok-add_cell.ensures
    ∙ ap (λ items. items ++ filter test (cell_at c.args.slot.0 at ∷ [])) c.loop-behind.invariant
    ∙ append_assoc c.args.cells.now.items (filter test before) (filter test (cell_at c.args.slot.0 at ∷ []))
    ∙ ap (λ more. c.args.cells.now.items ++ more)
    (sym (filter-append test before (cell_at c.args.slot.0 at ∷ []))
    ∙ ap (filter test) (sym (map-range_with_len_more (cell_at c.args.slot.0) c.args.first c.loop-behind.behind at refl)))

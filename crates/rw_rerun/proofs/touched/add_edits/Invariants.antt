use Rattle.rw_base.proofs.Common.{◌≡◌, ◌++◌, drop, flat_map}
use Rattle.rw_rerun.specs.Edited.{cells_changed}
use Rattle.rw_rerun.proofs.touched.add_edits.Given as goal

-- what is there and what is left to add are all of them
abbrev pub invariant-loop-edit : goal.invariant-loop-edit
invariant-loop-edit l =
    l.cells.items ++ flat_map (cells_changed l.basin l.inputs) (drop l.edit-index l.edits) ≡ l.fn.cells.items ++ flat_map (cells_changed l.basin l.inputs) l.edits

use Rattle.rw_base.proofs.Common.{◌≡◌, drop, list_any}
use Rattle.rw_rerun.specs.Touched.{is_reached}
use Rattle.rw_rerun.proofs.touched.is_touched.Given as goal

abbrev pub invariant-loop-cell : goal.invariant-loop-cell
invariant-loop-cell l =
    list_any (is_reached l.basin l.kept.looked) (drop l.cell-index l.cells) ≡ list_any (is_reached l.basin l.kept.looked) l.cells

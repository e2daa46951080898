use Rattle.rw_base.proofs.Common.{◌≡◌, ◌++◌, filter, map, range_with_len}
use Rattle.rw_run.specs.Dispatch.{cell_at}
use Rattle.rw_rerun.specs.Edited.{gives_another}
use Rattle.rw_rerun.proofs.touched.add_cells.Given as goal

abbrev pub invariant-loop-behind : goal.invariant-loop-behind
invariant-loop-behind l =
    l.cells.items ≡ l.fn.cells.items ++ filter (gives_another l.inputs l.value) (map (cell_at l.slot.0) (range_with_len l.first l.behind))

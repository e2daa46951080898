use Rattle.rw_base.specs.declared.number.Cell.{Cell}
use Rattle.rw_rerun.proofs.Reaching.{FirstFrom}
use Rattle.rw_rerun.proofs.reach.least_named.Given as goal

abbrev pub invariant-loop-cell : goal.invariant-loop-cell
invariant-loop-cell l = FirstFrom (λ (cell : Cell). cell.step.0) l.cells l.cell-index l.least

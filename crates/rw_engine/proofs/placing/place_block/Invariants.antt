use Rattle.rw_engine.proofs.Common.{IsHeldIn, held}
use Rattle.rw_engine.specs.Placed.{PlacesAtSteps, if_in_block, row_placings}
use Rattle.rw_engine.proofs.placing.place_block.Given as goal

abbrev pub invariant-loop-before : goal.invariant-loop-before
invariant-loop-before l = record {
  made : IsHeldIn l.basin l.series;
  placed_so_far : PlacesAtSteps l.basin (λ step. if_in_block l.first l.last step (row_placings l.inputs l.before step)) (held l.fn.series) (held l.series);
}

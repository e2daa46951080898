use Rattle.rw_engine.proofs.Common.{IsHeldIn, held, ◌≤◌}
use Rattle.rw_engine.specs.Placed.{PlacesAtSteps, if_in_block, placing_at}
use Rattle.rw_engine.proofs.placing.place_slot.Given as goal

abbrev pub invariant-loop-before : goal.invariant-loop-before
invariant-loop-before l = record {
  made : IsHeldIn l.basin l.series;
  order : l.first ≤ l.before;
  placed_so_far : PlacesAtSteps l.basin (λ step. if_in_block l.first l.before step (placing_at l.inputs l.slot.0 step)) (held l.fn.series) (held l.series);
}

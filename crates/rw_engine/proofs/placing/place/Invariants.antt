use Rattle.rw_engine.proofs.Common.{IsHeldIn, held, length, ◌-◌, ◌≤◌}
use Rattle.rw_model.specs.Objects.{all_slots}
use Rattle.rw_engine.specs.Placed.{PlacesAtSteps, if_in_block, row_placings}
use Rattle.rw_engine.proofs.placing.place.Given as goal

abbrev pub invariant-loop-first : goal.invariant-loop-first
invariant-loop-first l = record {
  made : IsHeldIn l.basin l.series;
  within : l.first ≤ l.steps;
  placed_so_far : PlacesAtSteps l.basin (λ step. if_in_block 0 l.first step (row_placings l.inputs (length (all_slots l.basin.objects)) step))
      (held l.fn.series) (held l.series);
}

abbrev pub decreases-loop-first : goal.decreases-loop-first
decreases-loop-first l = l.steps - l.first

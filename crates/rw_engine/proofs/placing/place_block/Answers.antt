use Rattle.rw_engine.proofs.Common.{add-one, arith, held, subst, ◌∙◌, ◌≡◌}
use Rattle.rw_engine.specs.Placed.{PlacesAtSteps, if_in_block, row_placings}
use Rattle.rw_engine.proofs.Places.{no_slots, slot-more}
use Rattle.rw_engine.proofs.placing.place_block.Goals as goal

pub loop-before-init : goal.loop-before-init
loop-before-init c = record {
  made = c.requires.made;
  placed_so_far = no_slots c.args.basin.now c.args.inputs.now c.args.first c.args.last (held c.args.series.now);
}

pub loop-before-preserved : goal.loop-before-preserved
loop-before-preserved c = record {
  made = c.place_slot.ensures.made;
  placed_so_far =
      slot-more c.args.basin.now c.args.inputs.now c.loop-before.before _ c.args.first c.args.last (held c.args.series.now)
      (held c.loop-before.series) (held c.place_slot.new.series) (add-one c.loop-before.before) c.loop-before.invariant.placed_so_far
      c.place_slot.ensures.placed;
}

pub returns-clause-placed : goal.returns-clause-placed
returns-clause-placed c =
    let all : c.loop-before.before ≡ c.slot_count-before-end.result = omega (arith, c.loop-before-test.false, c.loop-before.auto.before-end) in
    subst (λ n. PlacesAtSteps c.args.basin.now (λ step. if_in_block c.args.first c.args.last step (row_placings c.args.inputs.now n step))
    (held c.args.series.now) (held c.loop-before.series)) (all ∙ c.slot_count-before-end.ensures.count) c.loop-before.invariant.placed_so_far

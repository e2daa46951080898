use Rattle.rw_engine.proofs.Common.{HoldsAll, RunControl, ap, arith, held, length, placings_to, subst, with_inputs, ◌∙◌, ◌≡◌, ◌≤◌}
use Rattle.rw_model.specs.Objects.{all_slots}
use Rattle.rw_engine.specs.Placed.{row_placings}
use Rattle.rw_engine.proofs.Places.{all-placed, behind, no_steps}
use Rattle.rw_engine.proofs.placing.place.Goals as goal

pub loop-first-init : goal.loop-first-init
loop-first-init c = record {
  made = c.requires.made;
  within = omega arith;
  placed_so_far =
      no_steps c.args.basin.now (row_placings c.args.inputs.now (length (all_slots c.args.basin.now.objects))) 0 (held c.args.series.now);
}

pub place_block-requires-clause-steps : goal.place_block-requires-clause-steps
place_block-requires-clause-steps c =
    subst (λ n. c.last_of_steps-last.result ≤ n) (c.count-steps.ensures.value ∙ ap (λ (control : RunControl). control.stamps.count) c.control.ensures)
    c.last_of_steps-last.ensures.within

pub loop-first-preserved : goal.loop-first-preserved
loop-first-preserved c = record {
  made = c.place_block.ensures.made;
  within = c.last_of_steps-last.ensures.within;
  placed_so_far =
      behind c.args.basin.now (row_placings c.args.inputs.now (length (all_slots c.args.basin.now.objects))) 0 c.loop-first.first
      c.last_of_steps-last.result (held c.args.series.now) (held c.loop-first.series) (held c.place_block.new.series) (omega arith)
      (omega (arith, c.last_of_steps-last.ensures.more)) c.loop-first.invariant.placed_so_far c.place_block.ensures.placed;
}

pub returns-clause-placed : goal.returns-clause-placed
returns-clause-placed c =
    let all : c.loop-first.first ≡ c.count-steps.result = omega (arith, c.loop-first-test.false, c.loop-first.invariant.within) in
    let steps = all ∙ c.count-steps.ensures.value ∙ ap (λ (control : RunControl). control.stamps.count) c.control.ensures in
    let slots = length (all_slots c.args.basin.now.objects) in λ log holds.
    subst (λ n. HoldsAll c.args.basin.now c.loop-first.series (with_inputs log (placings_to c.args.inputs.now slots n))) steps
    (all-placed c.args.basin.now c.args.inputs.now slots c.loop-first.first c.args.series.now c.loop-first.series
    c.loop-first.invariant.placed_so_far log holds)

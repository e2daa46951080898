use Rattle.rw_dispatch.proofs.Common.{None, ap, arith, held, length, rules, slice_index_or, ◌<◌, ◌∙◌}
use Rattle.std.proofs.Math.ListN.{length-set}
use Rattle.rw_run.specs.Dispatch.{bounds_in_place, content_in}
use Rattle.rw_dispatch.specs.Seeing.{bounds_of_slot, content_at_slot}
use Rattle.rw_dispatch.proofs.Filling.{content_there, enough_columns, filled-all, filled-more, number_known, number_there, number_within}
use Rattle.rw_dispatch.proofs.view.see_slots.Goals as goal

pub see_slot-requires-clause-known : goal.see_slot-requires-clause-known
see_slot-requires-clause-known c =
    let objects = c.args.basin.now.objects in
    let near : c.loop-place.place < 12 = omega (arith, c.loop-place-test.true) in
    number_known objects c.args.object.0 c.loop-place.place (slice_index_or c.row-numbers.result.now c.loop-place.place None)
    (number_there objects c.args.object.0 c.loop-place.place c.row-numbers.result.now c.row-numbers.ensures near)

pub see_slot-requires-clause-column : goal.see_slot-requires-clause-column
see_slot-requires-clause-column c =
    let basin = c.args.basin.now in
    let near : c.loop-place.place < 12 = omega (arith, c.loop-place-test.true) in
    number_within basin.objects c.args.object.0 c.loop-place.place (length c.at_step-cells.result.columns)
    (slice_index_or c.row-numbers.result.now c.loop-place.place None)
    (number_there basin.objects c.args.object.0 c.loop-place.place c.row-numbers.result.now c.row-numbers.ensures near)
    (enough_columns basin c.args.step.0 c.args.series.now c.at_step-cells.result c.requires.turn.at c.requires.made c.at_step-cells.ensures.columns)

pub loop-place-preserved : goal.loop-place-preserved
loop-place-preserved c =
    let basin = c.args.basin.now in
    let place = c.loop-place.place in
    let was = c.loop-place.invariant in
    let seen = c.see_slot.ensures in
    let near : place < 12 = omega (arith, c.loop-place-test.true) in
    let number = number_there basin.objects c.args.object.0 place c.row-numbers.result.now c.row-numbers.ensures near in
    let same =
    content_there (held c.at_step-cells.result) (held c.args.series.now) 1 c.args.step.0 (slice_index_or c.row-numbers.result.now place None)
    c.at_step-cells.ensures.cells in
    record {
      contents =
          seen.content ∙ filled-more (content_in basin (held c.args.series.now) c.args.object.0 c.args.step.0) c.args.now.now place c.loop-place.now _
          (search rules) was.contents
          (same ∙ ap (content_at_slot (held c.args.series.now) c.args.step.0) number);
      bounds = seen.bounds ∙ filled-more (bounds_in_place basin c.args.object.0) c.args.bounds.now place c.loop-place.bounds _
          (search rules) was.bounds (ap (bounds_of_slot basin) number);
      contents_all = ap length seen.content ∙ length-set c.loop-place.now place _ ∙ was.contents_all;
      bounds_all = ap length seen.bounds ∙ length-set c.loop-place.bounds place _ ∙ was.bounds_all;
    }

pub see_slot-requires-in-loop-far-clause-known : goal.see_slot-requires-in-loop-far-clause-known
see_slot-requires-in-loop-far-clause-known c =
    let objects = c.args.basin.now.objects in
    let far = c.loop-far.far in
    let there = number_there objects c.args.object.0 far c.row-numbers.result.now c.row-numbers.ensures c.loop-far-test.true in
    number_known objects c.args.object.0 far c.number_at-number.result
    (c.number_at-number.ensures (λ none. there ∙ c.requires.late none far c.loop-far.invariant.first) ∙ there)

pub see_slot-requires-in-loop-far-clause-column : goal.see_slot-requires-in-loop-far-clause-column
see_slot-requires-in-loop-far-clause-column c =
    let basin = c.args.basin.now in
    let far = c.loop-far.far in
    let there = number_there basin.objects c.args.object.0 far c.row-numbers.result.now c.row-numbers.ensures c.loop-far-test.true in
    number_within basin.objects c.args.object.0 far (length c.at_step-cells.result.columns) c.number_at-number.result
    (c.number_at-number.ensures (λ none. there ∙ c.requires.late none far c.loop-far.invariant.first) ∙ there)
    (enough_columns basin c.args.step.0 c.args.series.now c.at_step-cells.result c.requires.turn.at c.requires.made c.at_step-cells.ensures.columns)

pub loop-far-preserved : goal.loop-far-preserved
loop-far-preserved c =
    let basin = c.args.basin.now in
    let far = c.loop-far.far in
    let was = c.loop-far.invariant in
    let seen = c.see_slot-in-loop-far.ensures in
    let there = number_there basin.objects c.args.object.0 far c.row-numbers.result.now c.row-numbers.ensures c.loop-far-test.true in
    let number = c.number_at-number.ensures (λ none. there ∙ c.requires.late none far was.first) ∙ there in
    let same =
    content_there (held c.at_step-cells.result) (held c.args.series.now) 1 c.args.step.0 c.number_at-number.result
    c.at_step-cells.ensures.cells in
    record {
      first = let first = was.first in omega (arith, first);
      contents =
          seen.content ∙ filled-more (content_in basin (held c.args.series.now) c.args.object.0 c.args.step.0) c.args.now.now far c.loop-far.now _
          (search rules) was.contents
          (same ∙ ap (content_at_slot (held c.args.series.now) c.args.step.0) number);
      bounds = seen.bounds ∙ filled-more (bounds_in_place basin c.args.object.0) c.args.bounds.now far c.loop-far.bounds _
          (search rules) was.bounds (ap (bounds_of_slot basin) number);
      contents_all = ap length seen.content ∙ length-set c.loop-far.now far _ ∙ was.contents_all;
      bounds_all = ap length seen.bounds ∙ length-set c.loop-far.bounds far _ ∙ was.bounds_all;
    }

pub returns-clause-contents : goal.returns-clause-contents
returns-clause-contents c =
    filled-all (content_in c.args.basin.now (held c.args.series.now) c.args.object.0 c.args.step.0) c.args.now.now c.loop-far.now c.loop-far.far 12
    (search rules) (search rules) c.loop-far.invariant.contents

pub returns-clause-bounds : goal.returns-clause-bounds
returns-clause-bounds c =
    filled-all (bounds_in_place c.args.basin.now c.args.object.0) c.args.bounds.now c.loop-far.bounds c.loop-far.far 12
    (search rules) (search rules) c.loop-far.invariant.bounds

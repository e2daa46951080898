use Rattle.rw_base.proofs.Common.{◌∙◌, List, ℤ, Option, ap, arith, length, length-append}
use Rattle.rw_series.specs.Series.{held}
use Rattle.rw_mrm.specs.Tally.{joined_up_to, slot_values}
use Rattle.rw_mrm.proofs.Tables.{length-slot_values, length-joined, joined_next, one_more}
use Rattle.rw_mrm.proofs.tally.push_table.Goals as goal

pub push_slot-requires : goal.push_slot-requires
push_slot-requires c =
    let now = c.loop-before.invariant in
    let lists = slot_values (held c.args.series.now) c.args.steps in
    let is = ap (λ (values : List (Option ℤ)). length values) now.0 in
    let all = length-append c.args.values.now.items (joined_up_to lists c.loop-before.before) in
    let so_far = length-joined lists c.args.steps c.loop-before.before (length-slot_values (held c.args.series.now) c.args.steps) in
    let more = c.loop-before-test.true in
    let enough = one_more c.loop-before.before c.args.slots c.args.steps more in
    let room = c.requires in
    let same = now.1 in
    omega (arith, is, all, so_far, enough, room, same)

pub loop-before-preserved : goal.loop-before-preserved
loop-before-preserved c = (
  joined_next (slot_values (held c.args.series.now) c.args.steps) c.args.values.now.items c.loop-before.before c.loop-before.values.items
      c.push_slot.new.values.items c.loop-before.invariant.0 c.push_slot.ensures.items,
  c.push_slot.ensures.room ∙ c.loop-before.invariant.1,
)

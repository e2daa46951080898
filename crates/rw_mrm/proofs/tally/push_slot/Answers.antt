use Rattle.rw_base.proofs.Common.{◌∙◌, List, ℤ, Option, ap, arith, length, length-append, option_map}
use Rattle.rw_model.specs.declared.content.Content.{Content}
use Rattle.rw_series.specs.Series.{held}
use Rattle.rw_report.specs.Section.{values_in}
use Rattle.rw_mrm.specs.Tally.{listed_up_to}
use Rattle.rw_mrm.proofs.Tables.{length-listed, listed_next}
use Rattle.rw_mrm.proofs.tally.push_slot.Goals as goal

pub push-requires : goal.push-requires
push-requires c =
    let now = c.loop-before.invariant in
    let things = values_in (held c.args.series.now) c.args.slot.0 in
    let is = ap (λ (values : List (Option ℤ)). length values) now.0 in
    let all = length-append c.args.values.now.items (listed_up_to things c.loop-before.before) in
    let so_far = length-listed things c.loop-before.before in
    let more = c.loop-before-test.true in
    let room = c.requires in
    let same = now.1 in
    omega (arith, is, all, so_far, more, room, same)

pub loop-before-preserved : goal.loop-before-preserved
loop-before-preserved c = (
  listed_next (values_in (held c.args.series.now) c.args.slot.0) c.args.values.now.items c.loop-before.before c.loop-before.values.items
      c.push.new.values.items (option_map (λ (content : Content). content.value) c.get.result) c.loop-before.invariant.0
      (ap (option_map (λ (content : Content). content.value)) c.get.ensures) c.push.ensures.items,
  c.push.ensures.room ∙ c.loop-before.invariant.1,
)

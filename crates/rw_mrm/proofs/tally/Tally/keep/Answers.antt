use Rattle.rw_base.proofs.Common.{◌*◌, List, ℤ, Option, ap, arith, length, length-append}
use Rattle.rw_series.specs.Series.{held}
use Rattle.rw_mrm.specs.Tally.{joined_up_to, slot_values}
use Rattle.rw_mrm.proofs.Tables.{length-slot_values, length-joined, next_multiple}
use Rattle.rw_mrm.proofs.tally.Tally.keep.Goals as goal

pub invariant_of-self : goal.invariant_of-self
invariant_of-self c =
    let before = c.self.invariant in
    let lists = slot_values (held c.args.series.now) c.self.inside.steps in
    let is = ap (λ (values : List (Option ℤ)). length values) c.push_table.ensures.items in
    let all = length-append c.self.inside.values.items (joined_up_to lists c.self.inside.slots) in
    let more = length-joined lists c.self.inside.steps c.self.inside.slots (length-slot_values (held c.args.series.now) c.self.inside.steps) in
    let one = next_multiple c.self.inside.settled (c.self.inside.slots * c.self.inside.steps) in
    let had = before.0 in
    let room = before.1.0 in
    let few = before.1.1 in
    let same = c.push_table.ensures.room in
    (omega (arith, is, all, more, one, had), (omega (arith, room, same), omega (arith, few)))

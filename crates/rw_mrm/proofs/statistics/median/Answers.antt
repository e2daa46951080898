use Rattle.std.proofs.Common.{rules, ◌≡◌, Some, w64, sym, ◌∙◌, ap}
use Rattle.rw_base.proofs.Common.{arith, to_z, of_z}
use Rattle.rw_mrm.proofs.Halves.{median_parted, parted}
use Rattle.rw_mrm.proofs.statistics.median.Goals as goal

pub returns : goal.returns
returns c =
    let call = c.select_nth_unstable-found in
    let t = call.type_inv in
    let u = c.well_formed in
    let empty = c.is_empty.ensures in
    let not = c.if-is_empty.false in
    let same : to_z w64 (of_z w64 call.result.1.now) ≡ call.result.1.now = search rules in
    ap Some same ∙ sym (median_parted c.args.values.now call.result.0.now call.result.1.now call.result.2.now
    (parted c.args.values.now call.result.0.now call.result.1.now call.result.2.now call.ensures.permutation call.ensures.front_len
    (grind (arith, empty, not)) call.ensures.partitioned))

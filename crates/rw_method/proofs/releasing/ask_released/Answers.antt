use Rattle.rw_base.proofs.Common.{rules, w64, FitsSigned, w128, to_z-of_z}
use Rattle.rw_method.proofs.releasing.ask_released.Goals as goal

pub returns : goal.returns
returns c =
    let value : FitsSigned w64 c.args.outflow.value = search rules in
    let most : FitsSigned w64 c.args.most = search rules in
    let release : FitsSigned w64 c.released-release.result = search rules in
    let spill : FitsSigned w128 c.spill-spill.result = search rules in
    let released = rw (to_z-of_z w64 c.args.outflow.value value, to_z-of_z w64 c.args.most most) at c.released-release.ensures in
    let spilt = rw (to_z-of_z w64 c.args.outflow.value value, to_z-of_z w64 c.released-release.result release, released) at c.spill-spill.ensures in
    let asks =
    rw (to_z-of_z w64 c.released-release.result release, to_z-of_z w128 c.spill-spill.result spill, spilt, released) at
    c.ask_parts.ensures.asks in
    record { asks = asks }

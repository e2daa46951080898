use Rattle.rw_base.proofs.Common.{to_z-of_z, w64}
use Rattle.rw_method.specs.Power.{plant}
use Rattle.rw_power.proofs.Parts.{behind, front_refused}
use Rattle.rw_power.proofs.puts.put_all.Goals as goal

pub returns-in-Err : goal.returns-in-Err
returns-in-Err c tailwater =
    front_refused (plant c.args.rating.now c.args.max_release tailwater c.args.power) c.args.view.now c.args.head c.args.asked c.args.terms.now
    c.args.balanced c.in-Err.answer c.in-Err.ensures.asks.refused

pub returns-in-Ok-ask_parts : goal.returns-in-Ok-ask_parts
returns-in-Ok-ask_parts c tailwater =
    let derived =
    rw (to_z-of_z w64 c.args.max_release c.ranges.max_release, to_z-of_z w64 c.args.head c.ranges.head, c.in-Ok.ensures.outflow) at
    (c.in-Ok-ask_parts.ensures.asks tailwater) in
    behind _ _ _ _ _ _ c.in-Ok.ensures.asks.fits (rw c.none-puts.ensures at c.in-Ok.ensures.asks.added) derived

pub returns-in-Err-ask_parts : goal.returns-in-Err-ask_parts
returns-in-Err-ask_parts c tailwater =
    let derived =
    rw (to_z-of_z w64 c.args.max_release c.ranges.max_release, to_z-of_z w64 c.args.head c.ranges.head, c.in-Ok.ensures.outflow) at
    (c.in-Err-ask_parts.ensures.asks tailwater) in
    behind _ _ _ _ _ _ c.in-Ok.ensures.asks.fits (rw c.none-puts.ensures at c.in-Ok.ensures.asks.added) derived

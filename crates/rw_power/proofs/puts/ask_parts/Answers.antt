use Rattle.rw_base.proofs.Common.{to_z-of_z, w64}
use Rattle.rw_method.proofs.Misfits.{asks_then}
use Rattle.rw_power.proofs.Parts.{asks_front}
use Rattle.rw_power.proofs.puts.ask_parts.Goals as goal

pub returns-in-Ok : goal.returns-in-Ok
returns-in-Ok c =
    let first =
    rw (to_z-of_z w64 c.args.head c.ranges.head, to_z-of_z w64 c.args.max_release c.ranges.max_release) at c.in-Ok.ensures.asks in
    let second = rw (to_z-of_z w64 c.args.max_release c.ranges.max_release) at c.ask_released.ensures.asks in
    record { asks = λ tailwater. asks_then _ _ _ _ _ _ _ first.added first.fits second }

pub returns-in-Err : goal.returns-in-Err
returns-in-Err c =
    let first =
    rw (to_z-of_z w64 c.args.head c.ranges.head, to_z-of_z w64 c.args.max_release c.ranges.max_release) at c.in-Err.ensures.asks in
    record { asks = λ tailwater. asks_front _ _ _ _ _ _ _ first }

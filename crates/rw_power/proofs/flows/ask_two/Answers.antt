use Rattle.rw_base.proofs.Common.{FitsSigned, arith, rules, to_z-of_z, w128}
use Rattle.rw_method.proofs.Misfits.{asks_then}
use Rattle.rw_power.proofs.Parts.{asks_front, room}
use Rattle.rw_power.proofs.flows.ask_two.Goals as goal

pub returns-in-Ok-clause-asks : goal.returns-in-Ok-clause-asks
returns-in-Ok-clause-asks c =
    let one : FitsSigned w128 c.args.one.value = search rules in
    let other : FitsSigned w128 c.args.other.value = search rules in
    let first = rw (to_z-of_z w128 c.args.one.value one) at c.in-Ok.ensures.asks in
    let second = rw (to_z-of_z w128 c.args.other.value other) at c.ask-in-Ok.ensures.asks in
    asks_then _ _ _ _ _ _ _ first.added first.fits second

pub returns-in-Ok-clause-room : goal.returns-in-Ok-clause-room
returns-in-Ok-clause-room c = room _ _ _ _ _ 2 (omega arith) (returns-in-Ok-clause-asks c)

pub returns-in-Err-clause-asks : goal.returns-in-Err-clause-asks
returns-in-Err-clause-asks c =
    let one : FitsSigned w128 c.args.one.value = search rules in
    asks_front _ _ _ _ _ _ _ (rw (to_z-of_z w128 c.args.one.value one) at c.in-Err.ensures.asks)

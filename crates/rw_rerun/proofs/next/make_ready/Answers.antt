use Rattle.rw_base.proofs.Common.{refl}
use Rattle.rw_rerun.proofs.next.make_ready.Goals as goal

pub bring-requires-clause-near : goal.bring-requires-clause-near
bring-requires-clause-near c = c.requires.left.near

pub bring-requires-clause-left : goal.bring-requires-clause-left
bring-requires-clause-left c = c.requires.left.known

pub give_all-requires-clause-made : goal.give_all-requires-clause-made
give_all-requires-clause-made c =
    let is = c.requires.stands in
    let brought = c.in_ok-bring.ensures.stands is.policy is.start is.end is.stands in
    record { series = brought.made.series; notes = brought.made.notes }

pub returns-clause-ready : goal.returns-clause-ready
returns-clause-ready c = record { mid = _; brings = c.in_ok-bring.ensures; same = refl; gives = c.give_all.ensures }

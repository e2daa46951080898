use Rattle.std.proofs.Common.{sym, arith}
use Rattle.rpl_verify.proofs.TakeFacts.{gather_fails}
use Rattle.rpl_verify.proofs.takes.gather.Goals as goal

pub returns-in-Err : goal.returns-in-Err
returns-in-Err c =
    let h = c.if-height-from.false in
    let e = c.height.ensures in
    let f = c.from.ensures in
    let z = c.if-count-eq0.false in
    gather_fails (Unit {0}) (Unit {0}) c.args.count c.in-Some.kind c.args.walk.now c.take_run.new.walk c.in-Err.fault (omega (arith, z))
    (omega (arith, h, e, f)) (sym c.in-Some.ensures) c.in-Err.ensures

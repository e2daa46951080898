use Rattle.rw_base.proofs.Common.{ap}
use Rattle.rpl_verify.specs.Verified.{Accepted}
use Rattle.rw_order.proofs.Picked.{comes_without}
use Rattle.rw_order.proofs.running.run_counted.Goals as goal

pub returns-clause-run : goal.returns-clause-run
returns-clause-run g c =
    comes_without c.args.basin.now c.none-empty.result (g.P.Pick.rule c.args.pick.now) c.args.inputs.now c.run_by_of.result
    (ap (λ (a : Accepted). a.blocks) c.none-empty.ensures)
    c.run_by_of.ensures.run

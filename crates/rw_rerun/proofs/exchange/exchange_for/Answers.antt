use Rattle.rw_base.proofs.Common.{subst}
use Rattle.rw_rerun.specs.Touched.{ReachFrom}
use Rattle.rw_rerun.proofs.Reaching.{reach_lower}
use Rattle.rw_rerun.proofs.exchange.exchange_for.Goals as goal

pub returns-clause-before : goal.returns-clause-before
returns-clause-before c =
    subst (λ kept. ReachFrom c.args.cells.now kept c.args.behind c.lesser.result) c.as_slice.ensures.value
    (reach_lower c.args.cells.now c.as_slice.result.now c.args.behind c.least_reached-before.result c.lesser.result c.lesser.ensures.0
    c.least_reached-before.ensures)

pub returns-clause-after : goal.returns-clause-after
returns-clause-after c =
    subst (λ kept. ReachFrom c.args.cells.now kept c.args.behind c.lesser.result) c.as_slice-2.ensures.value
    (reach_lower c.args.cells.now c.as_slice-2.result.now c.args.behind c.least_reached.result c.lesser.result c.lesser.ensures.1
    c.least_reached.ensures)

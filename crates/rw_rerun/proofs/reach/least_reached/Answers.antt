use Rattle.rw_rerun.proofs.Reaching.{reach_by}
use Rattle.rw_rerun.proofs.reach.least_reached.Goals as goal

pub returns : goal.returns
returns c =
    reach_by c.args.cells.now c.args.kept.now c.args.behind c.least_named.result c.least_kept.result c.lesser.result c.least_named.ensures
    c.least_kept.ensures c.lesser.ensures.0 c.lesser.ensures.1

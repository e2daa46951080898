use Rattle.rw_base.proofs.Common.{◌-◌, ◌≤◌}
use Rattle.rw_rerun.specs.Spare.{BringsTo}
use Rattle.rw_rerun.proofs.spare.bring_back.Given as goal

abbrev pub invariant-loop-spare : goal.invariant-loop-spare
invariant-loop-spare l = record {
  less : l.behind ≤ l.spare.behind;
  few : l.spare.behind ≤ l.fn.spare.behind;
  brings : BringsTo l.basin l.kept l.spare.behind l.fn.spare l.spare;
}

abbrev pub decreases-loop-spare : goal.decreases-loop-spare
decreases-loop-spare l = l.spare.behind - l.behind

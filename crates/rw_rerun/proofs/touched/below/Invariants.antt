use Rattle.rw_base.proofs.Common.{length, ◌≤◌, ◌-◌}
use Rattle.rw_rerun.specs.Touched.{AreBelow, AreNotBelow}
use Rattle.rw_rerun.proofs.touched.below.Given as goal

abbrev pub invariant-loop-first : goal.invariant-loop-first
invariant-loop-first l = record {
  order : l.first ≤ l.last;
  few : l.last ≤ length l.looked;
  below : AreBelow l.looked l.cell l.first;
  others : AreNotBelow l.looked l.cell l.last;
}

abbrev pub decreases-loop-first : goal.decreases-loop-first
decreases-loop-first l = l.last - l.first

use Rattle.rw_rerun.proofs.Reaching.{KeptBetween}
use Rattle.rw_rerun.proofs.reach.least_kept.Given as goal

abbrev pub invariant-loop-place : goal.invariant-loop-place
invariant-loop-place l = KeptBetween l.kept l.behind l.place l.least

use Rattle.rw_rerun.specs.Spare.{AreKeptFrom}
use Rattle.rw_rerun.proofs.spare.are_kept.Given as goal

abbrev pub invariant-loop-place : goal.invariant-loop-place
invariant-loop-place l = AreKeptFrom l.kept l.behind l.place

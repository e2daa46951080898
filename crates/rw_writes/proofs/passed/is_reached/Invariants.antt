use Rattle.rw_base.proofs.Common.{drop, ◌≡◌}
use Rattle.rw_run.specs.Next.{is_put_again}
use Rattle.rw_writes.proofs.passed.is_reached.Given as goal

abbrev pub invariant-loop-other : goal.invariant-loop-other
invariant-loop-other l =
    is_put_again l.basin l.write (drop l.other-index l.later) ≡ is_put_again l.basin l.write l.later

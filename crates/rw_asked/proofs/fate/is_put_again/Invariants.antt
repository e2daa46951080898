use Rattle.rw_base.proofs.Common.{drop, ◌≡◌}
use Rattle.rw_run.specs.Next.{is_put_again}
use Rattle.rw_asked.proofs.fate.is_put_again.Given as goal

abbrev pub invariant-loop-other : goal.invariant-loop-other
invariant-loop-other l =
    is_put_again l.basin l.put (drop l.other-index l.later) ≡ is_put_again l.basin l.put l.later

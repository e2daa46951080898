use Rattle.rw_method.proofs.Common.{drop, weakest, ◌≡◌}
use Rattle.rw_method.proofs.solving.weakest.Given as goal

abbrev pub invariant-loop-term : goal.invariant-loop-term
invariant-loop-term l = weakest l.weakest (drop l.term-index l.rest) ≡ weakest l.fn.first l.rest

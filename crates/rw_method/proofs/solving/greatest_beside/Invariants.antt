use Rattle.rw_method.proofs.Common.{drop, greatest_beside, max, ◌≡◌}
use Rattle.rw_method.proofs.solving.greatest_beside.Given as goal

abbrev pub invariant-loop-term : goal.invariant-loop-term
invariant-loop-term l = max l.greatest (greatest_beside l.place (drop l.term-index l.terms)) ≡ greatest_beside l.place l.terms

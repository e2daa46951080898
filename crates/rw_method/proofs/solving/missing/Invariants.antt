use Rattle.rw_method.proofs.Common.{drop, missing, ◌+◌, ◌≡◌, ◌≤◌}
use Rattle.rw_method.proofs.solving.missing.Given as goal

abbrev pub invariant-loop-term : goal.invariant-loop-term
invariant-loop-term l = record {
  few : l.count ≤ l.term-index;
  rest : l.count + missing (drop l.term-index l.terms) ≡ missing l.terms;
}

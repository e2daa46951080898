use Rattle.rw_method.proofs.Common.{IsWithin, drop, net_of, ◌+ℤ◌, ◌≡◌}
use Rattle.rw_method.proofs.solving.net_of.Given as goal

abbrev pub invariant-loop-term : goal.invariant-loop-term
invariant-loop-term l = record {
  bound : IsWithin l.term-index l.net;
  rest : l.net +ℤ net_of (drop l.term-index l.terms) ≡ net_of l.terms;
}

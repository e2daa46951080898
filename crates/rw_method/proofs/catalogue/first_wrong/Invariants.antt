use Rattle.rw_method.proofs.Common.{drop, first_wrong, map, ◌+◌, ◌≡◌}
use Rattle.rw_method.proofs.catalogue.first_wrong.Given as goal

abbrev pub invariant-loop-method : goal.invariant-loop-method
invariant-loop-method g l = record {
  place : l.place ≡ l.method-index + 1;
  rest : first_wrong 1 (map (λ b. (goal.Method-dyn g (b.vtable, b.value)).code b.value) l.methods)
      ≡ first_wrong l.place (map (λ b. (goal.Method-dyn g (b.vtable, b.value)).code b.value) (drop l.method-index l.methods));
}

use Rattle.rw_method.proofs.Common.{drop, held_after_puts, ◌≡◌}
use Rattle.rw_method.proofs.puts.held_after.Given as goal

abbrev pub invariant-loop-put : goal.invariant-loop-put
invariant-loop-put l = record { rest : held_after_puts l.view l.puts l.place ≡ held_after_puts l.view (drop l.put-index l.puts) l.place }

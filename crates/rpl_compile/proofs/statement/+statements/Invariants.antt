use Rattle.rpl_compile.proofs.Common.{acts_in, callees_of, compiled_acts, drop, written_of, ◌≡◌}
use Rattle.rpl_compile.proofs.statement.+statements.Given as goal

abbrev pub invariant-statements-loop-statement : goal.invariant-statements-loop-statement
invariant-statements-loop-statement l =
    compiled_acts (callees_of l.known) (written_of l.w) (acts_in (drop l.statement-index l.body))
    ≡ compiled_acts (callees_of l.known) (written_of l.fn.w) (acts_in l.body)

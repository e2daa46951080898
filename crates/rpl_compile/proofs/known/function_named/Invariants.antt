use Rattle.rpl_compile.proofs.Common.{callee_named, callee_or_none, callee_seen, callees_of, drop, map, option_map, ◌≡◌}
use Rattle.rpl_compile.proofs.Found.{last_named}
use Rattle.rpl_compile.proofs.known.function_named.Given as goal

abbrev pub invariant-loop-entry : goal.invariant-loop-entry
invariant-loop-entry l =
    last_named l.name (callee_or_none (option_map (λ f. f.now) l.found)) (map callee_seen (drop l.entry-index l.known)) ≡ callee_named
    (callees_of l.known) l.name

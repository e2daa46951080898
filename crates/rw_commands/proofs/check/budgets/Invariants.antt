use Rattle.rw_commands.proofs.Common.{counts_line, for_each, functions_in, policy_of, rule_line, rules_in, string_bytes, ◌++◌, ◌≡◌}
use Rattle.rw_commands.proofs.check.budgets.Given as goal

-- what is there: the counts, and the lines so far
abbrev pub invariant-loop-done : goal.invariant-loop-done
invariant-loop-done l =
    let policy = policy_of l.policy in
    string_bytes l.text ≡ counts_line (rules_in policy) (functions_in policy) ++ for_each (rule_line policy) l.done

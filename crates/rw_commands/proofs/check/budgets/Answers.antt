use Rattle.rw_commands.proofs.Common.{ap, arith, counts_line, functions_in, line_if, policy_of, rule_line, rules_in, string_bytes, sym, ◌++◌, ◌+◌, ◌∙◌}
use Rattle.rw_report.proofs.Growing.{next}
use Rattle.rw_commands.proofs.check.budgets.Goals as goal

pub cost-requires : goal.cost-requires
cost-requires c =
    let low = c.loop-done-test.true in
    record { counted = omega arith; exists = omega (arith, low, c.rule_count-done-end.ensures.count) }

pub loop-done-preserved : goal.loop-done-preserved
loop-done-preserved c =
    let policy = policy_of c.args.policy.now in
    let k = c.loop-done.done in
    let text = string_bytes c.loop-done.text in
    next (rule_line policy) k (counts_line (rules_in policy) (functions_in policy)) text (string_bytes c.push_budget.new.text)
    c.loop-done.invariant
    (c.in_ok-push_budget.ensures ∙ ap (λ l. text ++ l) (sym (ap (line_if (k + 1)) c.cost.ensures)))

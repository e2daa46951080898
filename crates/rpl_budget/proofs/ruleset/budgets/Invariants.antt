use Rattle.std.proofs.Common.{◌≡◌, ◌++◌, drop, map}
use Rattle.rpl_tree.specs.Seen.{declared_of, rules_of}
use Rattle.rpl_budget.specs.Budgets.{budgets_of}
use Rattle.rpl_budget.specs.Pass.{passed_from}
use Rattle.rpl_budget.specs.Seen.{budget_seen}
use Rattle.rpl_budget.proofs.ruleset.budgets.Given as goal

abbrev pub invariant-loop-declaration : goal.invariant-loop-declaration
invariant-loop-declaration l =
    map budget_seen l.costs.items ++ passed_from l.known (map declared_of (drop l.declaration-index l.rules.declarations.items))
    ≡ budgets_of (rules_of l.rules)

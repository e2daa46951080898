use Rattle.rpl_budget.proofs.Ordered.{budget_at, budgets_length}
use Rattle.rpl_budget.proofs.law.one_each.Goals as goal

pub returns-clause-length : goal.returns-clause-length
returns-clause-length c = budgets_length

pub returns-clause-number : goal.returns-clause-number
returns-clause-number c = budget_at

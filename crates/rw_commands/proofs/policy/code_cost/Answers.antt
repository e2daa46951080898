use Rattle.rw_commands.proofs.BudgetLemmas.{its_block}
use Rattle.rw_commands.proofs.policy.code_cost.Goals as goal

pub budget-budget-requires-clause-exists : goal.budget-budget-requires-clause-exists
budget-budget-requires-clause-exists c = (its_block c.args.code.now.blocks c.args.rule _ c.rule_block.ensures).1

pub budget-budget-requires-clause-counted : goal.budget-budget-requires-clause-counted
budget-budget-requires-clause-counted c = (its_block c.args.code.now.blocks c.args.rule _ c.rule_block.ensures).0

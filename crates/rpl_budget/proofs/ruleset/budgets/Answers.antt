use Rattle.rpl_tree.specs.Seen.{rules_of}
use Rattle.rpl_budget.proofs.Declared.{all_passed}
use Rattle.rpl_budget.proofs.ruleset.budgets.Goals as goal

pub loop-declaration-init : goal.loop-declaration-init
loop-declaration-init c = rw (c.in_ok-known.ensures, c.new-costs.ensures.items) (all_passed (rules_of c.args.rules.now))

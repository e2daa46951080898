use Rattle.rpl_tree.specs.Seen.{rules_of}
use Rattle.rw_commands.proofs.BudgetLemmas.{is_declared}
use Rattle.rw_commands.proofs.policy.Policy.cost.Goals as goal

pub cost-requires : goal.cost-requires
cost-requires c = record {
  rule = is_declared (rules_of c.in-Ruleset.typed.rules) c.args.rule c.requires.counted (rw c.in-Ruleset.is at c.requires.exists);
}

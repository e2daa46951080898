use Rattle.rw_rules.proofs.Fires.{its_block}
use Rattle.rw_rules.proofs.most.reads_of.Goals as goal

pub budget-requires-clause-exists : goal.budget-requires-clause-exists
budget-requires-clause-exists c =
    (its_block c.args.basin.now c.args.policy.now
    (c.answered_code_is_safe.ensures.accepted c.args.basin.now c.args.policy.now.blocks c.args.policy.now c.requires.fits)
    c.args.rule.0 c.rule_block.result c.rule_block.ensures).1

pub budget-requires-clause-counted : goal.budget-requires-clause-counted
budget-requires-clause-counted c =
    (its_block c.args.basin.now c.args.policy.now
    (c.answered_code_is_safe.ensures.accepted c.args.basin.now c.args.policy.now.blocks c.args.policy.now c.requires.fits)
    c.args.rule.0 c.rule_block.result c.rule_block.ensures).0

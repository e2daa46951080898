use Rattle.rpl_compile.specs.Budgets.{code_budgets_of}
use Rattle.rpl_compile.specs.Translate.{translate}
use Rattle.rpl_rulesets.proofs.RulesetPolicy.{fire_alike}
use Rattle.rpl_rulesets.proofs.law.rules_keep_promises.Goals as goal

pub returns-clause-alike : goal.returns-clause-alike
returns-clause-alike c = λ basin rules typed few fewer. fire_alike basin rules (c.rules_fire_alike.ensures basin rules typed few fewer)

pub returns-clause-promises : goal.returns-clause-promises
returns-clause-promises c = λ basin rules typed few fewer.
    c.code_keeps_promises.ensures basin (translate rules) (code_budgets_of rules) (c.compiled_budgets.ensures basin rules typed few fewer)

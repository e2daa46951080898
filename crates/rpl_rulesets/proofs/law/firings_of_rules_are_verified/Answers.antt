use Rattle.rpl_compile.specs.Budgets.{code_budgets_of}
use Rattle.rpl_compile.specs.Translate.{translate}
use Rattle.rpl_rulesets.proofs.law.firings_of_rules_are_verified.Goals as goal

pub returns : goal.returns
returns c = λ basin rules inputs log typed few fewer run.
    let both = c.rulesets_have_runs.ensures.same basin rules inputs log typed few fewer in
    let accepted = c.compiled_budgets.ensures basin rules typed few fewer in
    c.firings_are_verified.ensures basin (translate rules) (code_budgets_of rules) inputs log accepted (both.0 run)

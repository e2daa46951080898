use Rattle.rpl_compile.specs.Translate.{translate}
use Rattle.rpl_policy.specs.Policy.{policy_of_code}
use Rattle.rpl_rulesets.specs.RulesPolicy.{policy_of_rules}
use Rattle.rpl_rulesets.proofs.RulesetPolicy.{alike_back}
use Rattle.rpl_rulesets.proofs.law.rulesets_have_runs.Goals as goal

pub returns-clause-rules : goal.returns-clause-rules
returns-clause-rules c = λ basin rules inputs typed few fewer.
    let alike = c.rules_keep_promises.ensures.alike basin rules typed few fewer in
    let of_code =
    c.some_run.ensures.exists basin (policy_of_code basin (translate rules)) inputs
    (c.rules_keep_promises.ensures.promises basin rules typed few fewer) in (
      of_code.0,
      c.same_runs.ensures.alike basin (policy_of_code basin (translate rules)) (policy_of_rules basin rules) inputs of_code.0
          (alike_back alike) of_code.1,
    )

pub returns-clause-same : goal.returns-clause-same
returns-clause-same c = λ basin rules inputs log typed few fewer.
    let alike = c.rules_keep_promises.ensures.alike basin rules typed few fewer in (
      c.same_runs.ensures.alike basin (policy_of_rules basin rules) (policy_of_code basin (translate rules)) inputs log alike,
      c.same_runs.ensures.alike basin (policy_of_code basin (translate rules)) (policy_of_rules basin rules) inputs log (alike_back alike),
    )

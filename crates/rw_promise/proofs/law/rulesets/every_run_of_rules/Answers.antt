use Rattle.rpl_compile.specs.Translate.{translate}
use Rattle.rpl_policy.specs.Policy.{policy_of_code}
use Rattle.rpl_rulesets.specs.RulesPolicy.{policy_of_rules}
use Rattle.rw_promise.proofs.AlikePolicies.{keep_alike}
use Rattle.rw_promise.proofs.law.rulesets.every_run_of_rules.Goals as goal

pub returns : goal.returns
returns c = λ basin rules inputs log run valid typed few fewer whole comes.
    let kept = c.rules_keep_promises.ensures in
    let by_code = (c.rulesets_have_runs.ensures.same basin rules inputs log typed few fewer).0 whole in
    keep_alike basin (policy_of_rules basin rules) (policy_of_code basin (translate rules)) (kept.alike basin rules typed few fewer) log run
    (c.every_run.ensures basin (policy_of_code basin (translate rules)) inputs log run valid
    (kept.promises basin rules typed few fewer) by_code comes)

use Rattle.rw_commands.proofs.Common.{[]}
use Rattle.rw_run.specs.Runs.{with_inputs}
use Rattle.rpl_compile.specs.Translate.{translate}
use Rattle.rpl_policy.specs.Policy.{policy_of_code}
use Rattle.rpl_rulesets.specs.RulesPolicy.{policy_of_rules}
use Rattle.rw_inputs.specs.Placings.{placings}
use Rattle.rpl_types.specs.Judged.{rules_judged}
use Rattle.rw_commands.proofs.RulesText.{alike_turned, code_of_ruleset, types_of}
use Rattle.rw_commands.proofs.coded.rules_run.Goals as goal

pub returns : goal.returns
returns c = λ basin rules code fits bounded same.
    let types = types_of (rules_judged basin rules) fits in
    let typed = c.accepted.ensures basin rules types.0 types.1 in
    code_of_ruleset basin rules code same
    (c.compiled_budgets.ensures basin rules typed bounded.rules bounded.functions)
    (λ inputs log. (c.rulesets_have_runs.ensures.same basin rules (placings basin inputs) log typed bounded.rules bounded.functions).1)
    (λ inputs log whole. c.firings_of_rules_are_verified.ensures basin rules (placings basin inputs) log typed bounded.rules bounded.functions whole)
    (λ inputs log whole.
    (c.same_asks.ensures basin (policy_of_code basin (translate rules)) (policy_of_rules basin rules) (placings basin inputs) whole.events log
    (alike_turned (c.rules_keep_promises.ensures.alike basin rules typed bounded.rules bounded.functions))
    (c.choices.ensures.events basin (policy_of_code basin (translate rules)) (with_inputs [] (placings basin inputs)) whole.events log whole.leads)).1)

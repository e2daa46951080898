use Rattle.rpl_policy.specs.Policy.{policy_of_code}
use Rattle.rpl_policy.proofs.law.code_has_runs.Goals as goal

pub returns : goal.returns
returns c = λ basin code budgets inputs accepted.
    c.some_run.ensures.exists basin (policy_of_code basin code) inputs (c.code_keeps_promises.ensures basin code budgets accepted)

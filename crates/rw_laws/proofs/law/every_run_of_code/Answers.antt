use Rattle.rw_rules.specs.Rules.{policy_in}
use Rattle.rw_laws.proofs.law.every_run_of_code.Goals as goal

pub returns : goal.returns
returns c = λ basin policy inputs run valid fits comes.
    let accepted = c.answered_code_is_safe.ensures.accepted basin policy.blocks policy fits in
    let promise = c.code_keeps_promises.ensures basin policy.blocks policy.budgets accepted in
    c.every_run.ensures basin (policy_in basin policy) _ comes.log run valid promise comes.whole comes.is

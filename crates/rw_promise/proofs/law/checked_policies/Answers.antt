use Rattle.rw_promise.proofs.CheckedPolicies.{alike, each}
use Rattle.rw_promise.proofs.law.checked_policies.Goals as goal

pub returns-clause-each : goal.returns-clause-each
returns-clause-each c = each

pub returns-clause-code : goal.returns-clause-code
returns-clause-code c = λ basin rules typed few fewer. (c.compiled_budgets.ensures basin rules typed few fewer, alike rules)

use Rattle.rpl_policy.proofs.CodePolicy.{code_promises}
use Rattle.rpl_policy.proofs.law.code_keeps_promises.Goals as goal

pub returns : goal.returns
returns c = λ basin code budgets accepted. code_promises basin code budgets (c.verified_code_is_safe.ensures basin code budgets accepted)

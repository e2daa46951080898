use Rattle.rpl_policy.proofs.Verified.{firings_verified}
use Rattle.rpl_policy.proofs.law.firings_are_verified.Goals as goal

pub returns : goal.returns
returns c = λ basin code budgets inputs log accepted run.
    firings_verified basin code budgets (c.verified_code_is_safe.ensures basin code budgets accepted) inputs log run

use Rattle.rpl_verify.proofs.Accepted.{safe}
use Rattle.rpl_verify.proofs.VerifiedFacts.{answered, answered_resolved, answers, unchanged}
use Rattle.rpl_verify.proofs.law.answered_code_is_safe.Goals as goal

pub returns-clause-unchanged : goal.returns-clause-unchanged
returns-clause-unchanged c = unchanged

pub returns-clause-accepted : goal.returns-clause-accepted
returns-clause-accepted c = answered

pub returns-clause-safe : goal.returns-clause-safe
returns-clause-safe c = λ basin blocks a h. safe basin a.blocks a.budgets (answered basin blocks a h)

pub returns-clause-resolved : goal.returns-clause-resolved
returns-clause-resolved c = answered_resolved

pub returns-clause-all : goal.returns-clause-all
returns-clause-all c = answers

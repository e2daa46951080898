use Rattle.rw_base.proofs.Common.{arith, refl}
use Rattle.rpl_policy.specs.Worked.{divided_policy_run, raised_policy_run, thirds_run}
use Rattle.rpl_policy.proofs.law.numbers.Goals as goal

pub returns-clause-raised : goal.returns-clause-raised
returns-clause-raised c = record { events = raised_policy_run; leads = (refl, (refl, (refl, (refl, (refl, (refl, refl)))))); end = omega arith }

pub returns-clause-thirds : goal.returns-clause-thirds
returns-clause-thirds c = record { events = thirds_run; leads = (refl, (refl, (refl, (refl, (refl, (refl, refl)))))); end = omega arith }

pub returns-clause-divided : goal.returns-clause-divided
returns-clause-divided c = record { events = divided_policy_run; leads = (refl, (refl, (refl, (refl, (refl, refl))))); end = tt }

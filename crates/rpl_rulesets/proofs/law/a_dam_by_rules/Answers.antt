use Rattle.rw_base.proofs.Common.{arith, refl}
use Rattle.rpl_policy.specs.Worked.{dam_run}
use Rattle.rpl_rulesets.proofs.law.a_dam_by_rules.Goals as goal

pub returns : goal.returns
returns c = record { events = dam_run; leads = (refl, (refl, (refl, (refl, (refl, (refl, (refl, (refl, refl)))))))); end = omega arith }

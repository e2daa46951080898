use Rattle.rw_base.proofs.Common.{arith, refl}
use Rattle.rpl_policy.specs.Worked.{dam_run}
use Rattle.rpl_policy.proofs.law.a_dam.Goals as goal

pub returns-clause-code : goal.returns-clause-code
returns-clause-code c = record { events = dam_run; leads = (refl, (refl, (refl, (refl, (refl, (refl, (refl, (refl, refl)))))))); end = omega arith }

use Rattle.std.proofs.Common.{refl, arith}
use Rattle.rw_order.specs.Worked.{chain_newest, chain_oldest}
use Rattle.rw_order.proofs.law.a_chain.Goals as goal

pub returns-clause-oldest : goal.returns-clause-oldest
returns-clause-oldest c = record { events = chain_oldest; leads = (refl, (refl, (refl, (refl, refl)))); end = omega arith }

pub returns-clause-newest : goal.returns-clause-newest
returns-clause-newest c = record { events = chain_newest; leads = (refl, (refl, (refl, (refl, (refl, refl))))); end = omega arith }

pub returns-clause-turns : goal.returns-clause-turns
returns-clause-turns c = record { events = chain_newest; leads = (refl, (refl, (refl, (refl, (refl, refl))))); end = omega arith }

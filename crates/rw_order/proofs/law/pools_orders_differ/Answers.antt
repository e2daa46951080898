use Rattle.std.proofs.Common.{refl, arith}
use Rattle.rw_order.specs.Worked.{pools_newest, pools_oldest}
use Rattle.rw_order.proofs.law.pools_orders_differ.Goals as goal

pub returns-clause-oldest : goal.returns-clause-oldest
returns-clause-oldest c = record { events = pools_oldest; leads = (refl, (refl, (refl, (refl, refl)))); end = omega arith }

pub returns-clause-newest : goal.returns-clause-newest
returns-clause-newest c = record { events = pools_newest; leads = (refl, (refl, (refl, refl))); end = tt }

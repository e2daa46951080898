use Rattle.std.proofs.Common.{refl, arith}
use Rattle.rw_order.specs.Worked.{stores_newest, stores_oldest}
use Rattle.rw_order.proofs.law.stores_orders_differ.Goals as goal

pub returns-clause-oldest : goal.returns-clause-oldest
returns-clause-oldest c = record { events = stores_oldest; leads = (refl, (refl, (refl, (refl, refl)))); end = omega arith }

pub returns-clause-newest : goal.returns-clause-newest
returns-clause-newest c = record { events = stores_newest; leads = (refl, (refl, (refl, refl))); end = tt }

use Rattle.rw_run.specs.Next.{no_rules}
use Rattle.rw_engine.proofs.Oldest.{oldest_is_run, run_is_oldest}
use Rattle.rw_order.proofs.Picked.{picked_is_any}
use Rattle.rw_order.proofs.law.orders.Goals as goal

pub returns-clause-picked : goal.returns-clause-picked
returns-clause-picked c = picked_is_any

pub returns-clause-oldest : goal.returns-clause-oldest
returns-clause-oldest c = λ basin. oldest_is_run basin no_rules

pub returns-clause-is_oldest : goal.returns-clause-is_oldest
returns-clause-is_oldest c = λ basin. run_is_oldest basin no_rules

use Rattle.rw_promise.proofs.OneText.{one_simulated}
use Rattle.rw_promise.proofs.law.one_order.Goals as goal

pub returns : goal.returns
returns c = one_simulated c.one_run.ensures

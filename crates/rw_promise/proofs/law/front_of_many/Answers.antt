use Rattle.rw_promise.proofs.Fronts.{front_many}
use Rattle.rw_promise.proofs.law.front_of_many.Goals as goal

pub returns : goal.returns
returns c = front_many c.one_run.ensures

use Rattle.rw_order.proofs.Starts.{givens_inside}
use Rattle.rw_order.proofs.law.inputs_are_inside.Goals as goal

pub returns : goal.returns
returns c = givens_inside

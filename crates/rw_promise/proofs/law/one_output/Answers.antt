use Rattle.rw_promise.proofs.OneOutput.{one_output}
use Rattle.rw_promise.proofs.law.one_output.Goals as goal

pub returns : goal.returns
returns c = one_output c.one_run.ensures

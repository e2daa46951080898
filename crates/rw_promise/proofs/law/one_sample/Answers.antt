use Rattle.rw_promise.proofs.OneSample.{one_sample}
use Rattle.rw_promise.proofs.law.one_sample.Goals as goal

pub returns : goal.returns
returns c = one_sample c.one_run.ensures

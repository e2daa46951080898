use Rattle.rw_promise.proofs.OneText.{one_text}
use Rattle.rw_promise.proofs.law.one_text.Goals as goal

pub returns : goal.returns
returns c = one_text c.one_run.ensures

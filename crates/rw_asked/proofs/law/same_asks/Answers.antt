use Rattle.rw_asked.proofs.Alike.{any_alike}
use Rattle.rw_asked.proofs.law.same_asks.Goals as goal

pub returns : goal.returns
returns c = any_alike

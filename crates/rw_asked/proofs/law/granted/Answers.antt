use Rattle.rw_asked.proofs.Follow.{dispatch_granted}
use Rattle.rw_asked.proofs.law.granted.Goals as goal

pub returns : goal.returns
returns c = dispatch_granted

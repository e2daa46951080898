use Rattle.rw_record.proofs.Counting.{recorded}
use Rattle.rw_record.proofs.law.recorded.Goals as goal

pub returns : goal.returns
returns c = recorded

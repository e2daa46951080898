use Rattle.rw_record.proofs.Counting.{counted, looked}
use Rattle.rw_record.proofs.law.how_many.Goals as goal

pub returns-clause-cells : goal.returns-clause-cells
returns-clause-cells c = counted

pub returns-clause-looked : goal.returns-clause-looked
returns-clause-looked c = looked

use Rattle.rw_record.proofs.Taking.{one_more, opened}
use Rattle.rw_record.proofs.law.notes.Goals as goal

pub returns-clause-opened : goal.returns-clause-opened
returns-clause-opened c = opened

pub returns-clause-event : goal.returns-clause-event
returns-clause-event c = one_more

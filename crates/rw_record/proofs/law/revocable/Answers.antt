use Rattle.rw_record.proofs.Taking.{all_put, fresh, more_noted, whole}
use Rattle.rw_record.proofs.law.revocable.Goals as goal

pub returns-clause-fresh : goal.returns-clause-fresh
returns-clause-fresh c = fresh

pub returns-clause-noted : goal.returns-clause-noted
returns-clause-noted c = more_noted

pub returns-clause-put : goal.returns-clause-put
returns-clause-put c = all_put

pub returns-clause-whole : goal.returns-clause-whole
returns-clause-whole c = whole

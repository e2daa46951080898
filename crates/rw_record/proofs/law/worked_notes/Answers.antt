use Rattle.rw_record.proofs.Common.{refl}
use Rattle.rw_record.proofs.Worked.{by_slot, not_by_step}
use Rattle.rw_record.proofs.law.worked_notes.Goals as goal

pub returns-clause-again : goal.returns-clause-again
returns-clause-again c = refl

pub returns-clause-first : goal.returns-clause-first
returns-clause-first c = refl

pub returns-clause-both : goal.returns-clause-both
returns-clause-both c = refl

pub returns-clause-rising : goal.returns-clause-rising
returns-clause-rising c = by_slot

pub returns-clause-falling : goal.returns-clause-falling
returns-clause-falling c = not_by_step

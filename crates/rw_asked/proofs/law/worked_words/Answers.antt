use Rattle.rw_report.proofs.Worked.{same}
use Rattle.rw_asked.proofs.Texts.{again, denied, kept, late, over}
use Rattle.rw_asked.proofs.law.worked_words.Goals as goal

pub returns-clause-denied : goal.returns-clause-denied
returns-clause-denied c = same denied

pub returns-clause-kept : goal.returns-clause-kept
returns-clause-kept c = same kept

pub returns-clause-again : goal.returns-clause-again
returns-clause-again c = same again

pub returns-clause-late : goal.returns-clause-late
returns-clause-late c = same late

pub returns-clause-over : goal.returns-clause-over
returns-clause-over c = same over

use Rattle.rw_report.proofs.Worked.{again, flags, same}
use Rattle.rw_report.proofs.law.worked_parts.Goals as goal

pub returns-clause-flags : goal.returns-clause-flags
returns-clause-flags c = same flags

pub returns-clause-again : goal.returns-clause-again
returns-clause-again c = same again

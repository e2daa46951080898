use Rattle.rw_report.proofs.Worked.{ahead, given, linked, same}
use Rattle.rw_report.proofs.law.worked_reasons.Goals as goal

pub returns-clause-linked : goal.returns-clause-linked
returns-clause-linked c = same linked

pub returns-clause-ahead : goal.returns-clause-ahead
returns-clause-ahead c = same ahead

pub returns-clause-given : goal.returns-clause-given
returns-clause-given c = same given

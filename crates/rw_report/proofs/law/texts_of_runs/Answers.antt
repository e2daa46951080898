use Rattle.rw_report.proofs.Runs.{same_section}
use Rattle.rw_report.proofs.law.texts_of_runs.Goals as goal

pub returns-clause-whole : goal.returns-clause-whole
returns-clause-whole c = same_section

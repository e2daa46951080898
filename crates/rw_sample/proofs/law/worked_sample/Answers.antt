use Rattle.rw_base.proofs.Common.{refl}
use Rattle.rw_sample.proofs.Worked.{line, link, reach, reservoir, rule}
use Rattle.rw_sample.proofs.law.worked_sample.Goals as goal

pub returns-clause-objects : goal.returns-clause-objects
returns-clause-objects c = (reservoir, reach)

pub returns-clause-links : goal.returns-clause-links
returns-clause-links c = link

pub returns-clause-rule : goal.returns-clause-rule
returns-clause-rule c = rule

pub returns-clause-inflows : goal.returns-clause-inflows
returns-clause-inflows c = (refl, refl, refl, refl)

pub returns-clause-counts : goal.returns-clause-counts
returns-clause-counts c = (refl, refl)

pub returns-clause-line : goal.returns-clause-line
returns-clause-line c = line

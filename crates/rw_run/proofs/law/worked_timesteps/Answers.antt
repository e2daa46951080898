use Rattle.std.proofs.Common.{refl}
use Rattle.rw_run.proofs.law.worked_timesteps.Goals as goal

pub returns-clause-opening : goal.returns-clause-opening
returns-clause-opening c = refl

pub returns-clause-whole : goal.returns-clause-whole
returns-clause-whole c = refl

pub returns-clause-closing : goal.returns-clause-closing
returns-clause-closing c = refl

pub returns-clause-open : goal.returns-clause-open
returns-clause-open c = refl

pub returns-clause-cells : goal.returns-clause-cells
returns-clause-cells c = refl

pub returns-clause-both : goal.returns-clause-both
returns-clause-both c = refl

pub returns-clause-lines : goal.returns-clause-lines
returns-clause-lines c = refl

pub returns-clause-each : goal.returns-clause-each
returns-clause-each c = refl

pub returns-clause-apart : goal.returns-clause-apart
returns-clause-apart c = refl

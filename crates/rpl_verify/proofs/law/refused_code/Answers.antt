use Rattle.rpl_verify.proofs.Refusing.{first_told, over_told}
use Rattle.rpl_verify.proofs.law.refused_code.Goals as goal

pub returns-clause-misfit : goal.returns-clause-misfit
returns-clause-misfit c = first_told

pub returns-clause-over : goal.returns-clause-over
returns-clause-over c = over_told

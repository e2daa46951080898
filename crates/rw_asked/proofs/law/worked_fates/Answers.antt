use Rattle.rw_base.proofs.Common.{arith, false≢true, none-some, refl}
use Rattle.rw_asked.proofs.law.worked_fates.Goals as goal

pub returns-clause-late : goal.returns-clause-late
returns-clause-late c = refl

pub returns-clause-again : goal.returns-clause-again
returns-clause-again c = refl

pub returns-clause-in_run : goal.returns-clause-in_run
returns-clause-in_run c = λ less. omega (arith, less)

pub returns-clause-alone : goal.returns-clause-alone
returns-clause-alone c = λ is. false≢true is

pub returns-clause-unheld : goal.returns-clause-unheld
returns-clause-unheld c = λ is. none-some _ is.0

pub returns-clause-denied : goal.returns-clause-denied
returns-clause-denied c = λ granted. granted.0

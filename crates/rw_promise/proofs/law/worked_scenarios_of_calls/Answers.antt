use Rattle.std.proofs.Common.{refl}
use Rattle.rw_promise.proofs.law.worked_scenarios_of_calls.Goals as goal

pub returns-clause-traces : goal.returns-clause-traces
returns-clause-traces c = refl

pub returns-clause-untraced : goal.returns-clause-untraced
returns-clause-untraced c = refl

pub returns-clause-model : goal.returns-clause-model
returns-clause-model c = refl

pub returns-clause-alone : goal.returns-clause-alone
returns-clause-alone c = refl

pub returns-clause-settled : goal.returns-clause-settled
returns-clause-settled c = refl

pub returns-clause-numbers : goal.returns-clause-numbers
returns-clause-numbers c = λ basin log other. refl

pub returns-clause-first : goal.returns-clause-first
returns-clause-first c = λ why. refl

pub returns-clause-last : goal.returns-clause-last
returns-clause-last c = λ why. refl

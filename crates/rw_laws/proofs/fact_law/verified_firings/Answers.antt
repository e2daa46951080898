use Rattle.std.proofs.Common.{refl}
use Rattle.rw_laws.proofs.fact_law.verified_firings.Goals as goal

pub returns-clause-told : goal.returns-clause-told
returns-clause-told c = λ basin code budgets log firing all. all.0 _ refl

pub returns-clause-divided : goal.returns-clause-divided
returns-clause-divided c = λ basin code budgets log rule step all. all.0 _ refl

pub returns-clause-outside : goal.returns-clause-outside
returns-clause-outside c = λ basin code budgets log rule step value all. all.0 _ refl

pub returns-clause-earlier : goal.returns-clause-earlier
returns-clause-earlier c = λ basin code budgets log event all. all.1

use Rattle.rw_laws.proofs.fact_law.verified_firing.Goals as goal

pub returns : goal.returns
returns c = λ basin code budgets log event turn is. (is.block, is.budget, is.stands, is.is_budget, is.safe, is.is)

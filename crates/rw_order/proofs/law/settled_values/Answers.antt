use Rattle.rw_order.proofs.law.settled_values.Goals as goal

pub returns-clause-end : goal.returns-clause-end
returns-clause-end c = λ basin log run settles. settles.end

pub returns-clause-values : goal.returns-clause-values
returns-clause-values c = λ basin log run cell settles. settles.values cell

use Rattle.rw_mrm.proofs.Sums.{tally_goes_on}
use Rattle.rw_mrm.proofs.law.tallies.Goals as goal

pub returns-clause-goes_on : goal.returns-clause-goes_on
returns-clause-goes_on c = tally_goes_on

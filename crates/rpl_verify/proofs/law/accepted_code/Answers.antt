use Rattle.rpl_verify.proofs.Rulings.{accepted_fits, accepted_within}
use Rattle.rpl_verify.proofs.law.accepted_code.Goals as goal

pub returns-clause-fits : goal.returns-clause-fits
returns-clause-fits c = accepted_fits

pub returns-clause-within : goal.returns-clause-within
returns-clause-within c = accepted_within

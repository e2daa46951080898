use Rattle.rpl_parse.proofs.BoundFacts.{bounds_hold}
use Rattle.rpl_parse.proofs.law.bounds.Goals as goal

pub returns : goal.returns
returns c = record { all = bounds_hold }

use Rattle.rw_model.proofs.BuildFacts.{object-iff, bound-iff}
use Rattle.rw_model.proofs.law.faultless_parts.Goals as goal

pub returns : goal.returns
returns c = record { object = object-iff; bound = bound-iff }

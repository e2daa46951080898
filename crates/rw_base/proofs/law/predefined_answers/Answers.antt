use Rattle.rw_base.proofs.Predefined.{IsQuantity-predefined_of}
use Rattle.rw_base.proofs.law.predefined_answers.Goals as goal

pub returns : goal.returns
returns c = IsQuantity-predefined_of

use Rattle.rw_plain_reservoir.proofs.Whole.{first-text}
use Rattle.rw_plain_reservoir.proofs.law.first_text.Goals as goal

pub returns : goal.returns
returns c = first-text c.one_run.ensures

use Rattle.rpl_verify.proofs.Accepted.{safe}
use Rattle.rpl_verify.proofs.law.verified_code_is_safe.Goals as goal

pub returns : goal.returns
returns c = safe

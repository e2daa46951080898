use Rattle.rpl_compile.proofs.Firing.{fires_alike}
use Rattle.rpl_compile.proofs.meaning.accepted_code_means_its_rule.Goals as goal

pub returns : goal.returns
returns c = fires_alike

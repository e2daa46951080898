use Rattle.rpl_compile.proofs.Firing.{ends_alike, fires}
use Rattle.rpl_compile.proofs.meaning.code_means_its_rule.Goals as goal

pub returns-clause-fires : goal.returns-clause-fires
returns-clause-fires c = fires

pub returns-clause-alike : goal.returns-clause-alike
returns-clause-alike c = ends_alike

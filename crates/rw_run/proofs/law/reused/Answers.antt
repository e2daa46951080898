use Rattle.rw_run.proofs.Reruns.{held_alike, reused}
use Rattle.rw_run.proofs.law.reused.Goals as goal

pub returns-clause-held_alike : goal.returns-clause-held_alike
returns-clause-held_alike c = held_alike

pub returns-clause-alike : goal.returns-clause-alike
returns-clause-alike c = reused

pub returns-clause-small : goal.returns-clause-small
returns-clause-small c = λ basin earlier later step is. (is.few_cells, is.few_lines)

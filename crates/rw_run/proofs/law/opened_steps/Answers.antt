use Rattle.rw_run.proofs.Openings.{opened_steps}
use Rattle.rw_run.proofs.law.opened_steps.Goals as goal

pub returns : goal.returns
returns c = opened_steps

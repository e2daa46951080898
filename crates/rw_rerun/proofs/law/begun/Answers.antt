use Rattle.rw_rerun.proofs.Begun.{alike, timesteps, unmoved}
use Rattle.rw_rerun.proofs.law.begun.Goals as goal

pub returns-clause-timesteps : goal.returns-clause-timesteps
returns-clause-timesteps c = timesteps c.reuse.ensures

pub returns-clause-alike : goal.returns-clause-alike
returns-clause-alike c = alike

pub returns-clause-unmoved : goal.returns-clause-unmoved
returns-clause-unmoved c = unmoved

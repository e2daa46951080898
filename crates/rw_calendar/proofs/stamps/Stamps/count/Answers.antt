use Rattle.std.proofs.Common.{subst}
use Rattle.rw_calendar.specs.Stamps.{AreTimesteps}
use Rattle.rw_calendar.proofs.TimestepFacts.{are-found}
use Rattle.rw_calendar.proofs.stamps.Stamps.count.Goals as goal

pub returns-clause-timesteps : goal.returns-clause-timesteps
returns-clause-timesteps c =
    let kept = c.self.invariant in
    subst AreTimesteps c.self.view_is
    (are-found c.self.inside.start c.self.inside.step_length c.self.inside.count c.self.inside.moments.items kept.0 kept.1 kept.2)

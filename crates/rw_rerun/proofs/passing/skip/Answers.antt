use Rattle.rw_base.proofs.Common.{refl}
use Rattle.rw_rerun.proofs.Goings.{skip_goes}
use Rattle.rw_rerun.proofs.passing.skip.Goals as goal

pub returns : goal.returns
returns g c = λ steps.
    skip_goes c.args._setup.now.basin.now c.args._setup.now.policy.now c.args._step.0 c.args.pass.now _ c.requires.made steps _ c.requires.ended
    c.requires.ended
    refl refl c.in_ok-push.ensures.items

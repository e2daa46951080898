use Rattle.rw_base.proofs.Common.{refl}
use Rattle.rw_rerun.proofs.Goings.{take_goes}
use Rattle.rw_rerun.proofs.passing.take_over.Goals as goal

pub returns : goal.returns
returns g c = λ steps.
    take_goes c.args.setup.now.basin.now c.args.setup.now.policy.now c.args.step.0 c.args.pass.now _ c.requires.made steps _ c.args.kept.now
    c.requires.goes c.requires.goes
    c.requires.step c.requires.can c.requires.alike c.in_ok-replay_kept.ensures refl c.in_ok-push.ensures.items

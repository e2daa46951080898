use Rattle.rw_base.proofs.Common.{refl}
use Rattle.rw_rerun.proofs.Goings.{fault_goes, run_goes}
use Rattle.rw_rerun.proofs.passing.run_anew.Goals as goal

pub returns-in_ok-push-in-Closed : goal.returns-in_ok-push-in-Closed
returns-in_ok-push-in-Closed g c =
    run_goes c.args.setup.now.basin.now c.args.setup.now.policy.now c.args.step.0 c.args.pass.now _ c.requires.made c.args.steps.now _ c.args.step
    refl c.requires.goes
    c.requires.step c.in_ok-end.ensures.counted c.in_ok-push.ensures.items _ _ _ c.requires.goes (rw c.in-Closed.is at c.in_ok-end.ensures.runs)
    c.in_ok-kept-in-Closed.ensures.left c.in_ok-kept-in-Closed.ensures.noted c.how_many.ensures.looked c.in_ok-push-in-Closed.ensures.items

pub returns-in_ok-push-in-Fault : goal.returns-in_ok-push-in-Fault
returns-in_ok-push-in-Fault g c =
    fault_goes c.args.setup.now.basin.now c.args.setup.now.policy.now c.args.step.0 c.args.pass.now _ c.requires.made c.args.steps.now _ c.args.step
    refl c.requires.goes
    c.requires.step c.in_ok-end.ensures.counted c.in_ok-push.ensures.items _ _ refl (rw c.in-Fault.is at c.in_ok-end.ensures.runs)
    c.in_ok-push-in-Fault.ensures.items

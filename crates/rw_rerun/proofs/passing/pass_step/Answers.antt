use Rattle.rw_base.proofs.Common.{◌∙◌}
use Rattle.rw_rerun.proofs.Counted.{weaker}
use Rattle.rw_rerun.proofs.passing.pass_step.Goals as goal

pub returns-then-pass : goal.returns-then-pass
returns-then-pass g c =
    weaker c.args.setup.now.basin.now c.args.setup.now.policy.now c.args.step.0 _ _ c.args.pass.now _ _ _ _ (λ entry is. tt)
    (c.skip.ensures c.args.steps.now)

pub returns-then-is_kept_alike : goal.returns-then-is_kept_alike
returns-then-is_kept_alike g c =
    weaker c.args.setup.now.basin.now c.args.setup.now.policy.now c.args.step.0 _ _ c.args.pass.now _ _ _ _ (λ entry is. is ∙ c.in-Some.is)
    (c.take_over.ensures c.args.steps.now)

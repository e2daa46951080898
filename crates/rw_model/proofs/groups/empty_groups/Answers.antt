use Rattle.rw_base.proofs.Common.{arith, common_steps}
use Rattle.rw_model.proofs.groups.empty_groups.Goals as goal

pub loop-preserved : goal.loop-preserved
loop-preserved c = (grind (arith, common_steps), λ place. grind (arith, common_steps))

use Rattle.rw_base.proofs.Common.{arith, common_steps}
use Rattle.rw_model.proofs.judge.judge_link.Goals as goal

pub loop-place-preserved : goal.loop-place-preserved
loop-place-preserved c = (grind (arith, common_steps), grind (arith, common_steps), grind (arith, common_steps))

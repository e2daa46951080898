use Rattle.rw_reservoir.proofs.Short.{idle_beside}
use Rattle.rw_reservoir.proofs.balance.is_short.Goals as goal

pub returns : goal.returns
returns c short table steady = idle_beside steady _ _ (c.are_two_missing.ensures short table)

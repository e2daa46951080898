use Rattle.rw_base.proofs.Common.{refl}
use Rattle.rw_users.proofs.water_user.solve_user.Goals as goal

pub returns-in-Idle : goal.returns-in-Idle
returns-in-Idle c = rw (← c.balanced_by.ensures c.args.depletion, c.in-Idle.is) refl

pub returns-in_default : goal.returns-in_default
returns-in_default c = rw (← c.balanced_by.ensures c.args.depletion) c.put_uses.ensures

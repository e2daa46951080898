use Rattle.rw_method.proofs.LeftKept.{own_puts_fall, puts_are_apart}
use Rattle.rw_method.proofs.slot_law.own_puts_fall.Goals as goal

pub returns-clause-falls : goal.returns-clause-falls
returns-clause-falls c = own_puts_fall

pub returns-clause-apart : goal.returns-clause-apart
returns-clause-apart c = puts_are_apart

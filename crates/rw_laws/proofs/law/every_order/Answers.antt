use Rattle.rw_laws.proofs.Laws.{every_order}
use Rattle.rw_laws.proofs.law.every_order.Goals as goal

pub returns : goal.returns
returns c = every_order

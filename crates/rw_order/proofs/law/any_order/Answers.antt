use Rattle.rw_order.proofs.LaidOut.{laid_out}
use Rattle.rw_order.proofs.Starts.{orders_agree}
use Rattle.rw_order.proofs.law.any_order.Goals as goal

pub returns : goal.returns
returns c = λ basin inputs log other valid free inside one settled two.
    orders_agree basin valid (laid_out basin valid free) inputs log other inside one settled two

use Rattle.rw_base.proofs.Common.{rules, w64, FitsSigned, to_z-of_z}
use Rattle.rw_reservoir.proofs.release.ask_release.Goals as goal

pub returns-in-Some : goal.returns-in-Some
returns-in-Some c =
    let most : FitsSigned w64 c.in-Some.most = search rules in
    let asks = rw (to_z-of_z w64 c.in-Some.most most) at c.ask_released.ensures.asks in
    rw c.in-Some.is (record { asks = asks })

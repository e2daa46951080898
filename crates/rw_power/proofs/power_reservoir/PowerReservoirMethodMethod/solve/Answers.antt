use Rattle.rw_base.proofs.Common.{FitsSigned, rules, to_z-of_z, w64}
use Rattle.rw_power.proofs.power_reservoir.PowerReservoirMethodMethod.solve.Goals as goal

pub returns : goal.returns
returns c =
    let kind = c.in-PowerReservoir in
    let most : FitsSigned w64 kind.max_release = search rules in
    let tail : FitsSigned w64 kind.tailwater = search rules in
    rw kind.is (rw (to_z-of_z w64 kind.max_release most, to_z-of_z w64 kind.tailwater tail) at (c.solve_power.ensures kind.initial_storage))

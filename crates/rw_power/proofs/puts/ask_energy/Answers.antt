use Rattle.rw_base.proofs.Common.{FitsSigned, rules, to_z-of_z, w64, w128}
use Rattle.rw_power.proofs.puts.ask_energy.Goals as goal

pub returns-clause-asks : goal.returns-clause-asks
returns-clause-asks c =
    let value : FitsSigned w64 c.args.outflow.value = search rules in
    let energy : FitsSigned w128 c.energy_released-energy.result = search rules in
    let amount =
    rw (to_z-of_z w64 c.args.head c.ranges.head, to_z-of_z w64 c.args.max_release c.ranges.max_release, to_z-of_z w64 c.args.outflow.value value)
    at c.energy_released-energy.ensures in
    rw (to_z-of_z w128 c.energy_released-energy.result energy, amount) at c.ask.ensures.asks

use Rattle.rw_reservoir.proofs.reservoir.ReservoirMethodMethod.solve.Goals as goal

pub returns-in-Reservoir-2 : goal.returns-in-Reservoir-2
returns-in-Reservoir-2 c =
    let kind = c.in-Reservoir-2 in
    let solved = c.solve_reservoir.ensures kind.initial_storage kind.local_inflow kind.diversion kind.return_flow c.side_flows-side.ensures.flow in
    rw kind.is (rw c.as_ref-rating.ensures.value at solved)

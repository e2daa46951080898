use Rattle.rw_reservoir.proofs.reservoir.solve_reservoir.Goals as goal

pub returns : goal.returns
returns c initial_storage local_inflow diversion return_flow is =
    rw (c.balance-balanced.ensures, c.stores-contents.ensures, c.evaporation_of-evaporated.ensures.amount, is)
    at c.answer_by.ensures

use Rattle.rw_base.proofs.Common.{arith, ints}
use Rattle.rw_stream.proofs.reach.solve_unlagged.Goals as goal

pub solve_balance-requires-clause-bound : goal.solve_balance-requires-clause-bound
solve_balance-requires-clause-bound c x is =
    let bound = c.requires x is in
    record { low = omega (arith, ints, bound.low); high = omega (arith, ints, bound.high) }

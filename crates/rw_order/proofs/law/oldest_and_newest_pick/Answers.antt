use Rattle.std.proofs.Common.{arith}
use Rattle.rw_order.proofs.law.oldest_and_newest_pick.Goals as goal

pub returns-clause-oldest : goal.returns-clause-oldest
returns-clause-oldest c = λ turn waits some. omega (arith, some)

pub returns-clause-newest : goal.returns-clause-newest
returns-clause-newest c = λ turn waits some. omega (arith, some)

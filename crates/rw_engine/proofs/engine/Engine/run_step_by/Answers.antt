use Rattle.std.proofs.Common.{arith}
use Rattle.rw_engine.proofs.Steps.{none_counted}
use Rattle.rw_engine.proofs.engine.Engine.run_step_by.Goals as goal

pub returns-in_err-end-clause-counted : goal.returns-in_err-end-clause-counted
returns-in_err-end-clause-counted g c = let none = none_counted c.from_residual.result _ c.from_residual.ensures.1 in omega (arith, none)

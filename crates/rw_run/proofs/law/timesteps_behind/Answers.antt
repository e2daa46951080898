use Rattle.rw_run.proofs.Passings.{begun, closed_behind, faulted_behind, nothing_of, one_timestep}
use Rattle.rw_run.proofs.law.timesteps_behind.Goals as goal

pub returns-clause-closed : goal.returns-clause-closed
returns-clause-closed c = closed_behind

pub returns-clause-faulted : goal.returns-clause-faulted
returns-clause-faulted c = faulted_behind

pub returns-clause-one : goal.returns-clause-one
returns-clause-one c = one_timestep

pub returns-clause-begun : goal.returns-clause-begun
returns-clause-begun c = begun

pub returns-clause-none : goal.returns-clause-none
returns-clause-none c = nothing_of

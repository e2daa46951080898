use Rattle.rw_promise.proofs.Fronts.{balance_front, sample_front, simulate_front, why_front}
use Rattle.rw_promise.proofs.law.fronts_of_runs.Goals as goal

pub returns-clause-simulate : goal.returns-clause-simulate
returns-clause-simulate c = simulate_front c.one_run.ensures

pub returns-clause-why : goal.returns-clause-why
returns-clause-why c = why_front c.one_run.ensures

pub returns-clause-balance : goal.returns-clause-balance
returns-clause-balance c = balance_front c.one_run.ensures

pub returns-clause-sample : goal.returns-clause-sample
returns-clause-sample c = sample_front c.one_run.ensures

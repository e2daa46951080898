use Rattle.rw_promise.proofs.Fronts.{check_front, compile_front, run_front}
use Rattle.rw_promise.proofs.law.fronts.Goals as goal

pub returns-clause-check : goal.returns-clause-check
returns-clause-check c = check_front

pub returns-clause-compile : goal.returns-clause-compile
returns-clause-compile c = compile_front

pub returns-clause-run : goal.returns-clause-run
returns-clause-run c = run_front c.one_run.ensures

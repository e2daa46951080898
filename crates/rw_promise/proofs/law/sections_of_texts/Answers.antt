use Rattle.rw_promise.proofs.Lengths.{many_count, run_count}
use Rattle.rw_promise.proofs.law.sections_of_texts.Goals as goal

pub returns-clause-run : goal.returns-clause-run
returns-clause-run c = run_count

pub returns-clause-many : goal.returns-clause-many
returns-clause-many c = many_count

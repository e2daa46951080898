use Rattle.rw_asked.proofs.Follow.{run_plain}
use Rattle.rw_asked.proofs.law.plain_lines.Goals as goal

pub returns-clause-trace : goal.returns-clause-trace
returns-clause-trace c = run_plain

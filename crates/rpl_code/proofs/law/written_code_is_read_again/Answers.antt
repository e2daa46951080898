use Rattle.rpl_code.proofs.ReadingLeft.{read_again}
use Rattle.rpl_code.proofs.law.written_code_is_read_again.Goals as goal

pub returns : goal.returns
returns c = read_again

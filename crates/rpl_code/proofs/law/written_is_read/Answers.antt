use Rattle.rpl_code.proofs.CodeRead.{read_spelt}
use Rattle.rpl_code.proofs.law.written_is_read.Goals as goal

pub returns : goal.returns
returns c = read_spelt

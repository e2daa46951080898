use Rattle.rpl_code.proofs.CodeBack.{read_back}
use Rattle.rpl_code.proofs.law.read_is_written.Goals as goal

pub returns-clause-text : goal.returns-clause-text
returns-clause-text c text blocks short e = (read_back text blocks short e).is

pub returns-clause-bounds : goal.returns-clause-bounds
returns-clause-bounds c text blocks short e = (read_back text blocks short e).code

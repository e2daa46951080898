use Rattle.rpl_compile.proofs.Spelling.{compiled_can_be_spelt}
use Rattle.rpl_compile.proofs.accepted.compiled_code_can_be_spelt.Goals as goal

pub returns : goal.returns
returns c = compiled_can_be_spelt

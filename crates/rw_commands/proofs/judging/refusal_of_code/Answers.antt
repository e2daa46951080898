use Rattle.rw_commands.proofs.CauseLemmas.{code_refusal}
use Rattle.rw_commands.proofs.judging.refusal_of_code.Goals as goal

pub returns-in_default : goal.returns-in_default
returns-in_default c = λ basin. code_refusal basin c.args._text.now c.args.fault c.in_default.not-NoMemory c.requires

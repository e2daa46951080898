use Rattle.rw_commands.proofs.CauseLemmas.{grammar_refusal}
use Rattle.rw_commands.proofs.judging.refusal_of_grammar.Goals as goal

pub returns-in_default : goal.returns-in_default
returns-in_default c = λ basin. grammar_refusal basin c.args._text.now c.args.fault c.in_default.not-NoMemory c.requires

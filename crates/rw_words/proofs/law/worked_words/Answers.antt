use Rattle.rw_words.proofs.Worked.{ask_for_nothing, ask_with_options}
use Rattle.rw_words.proofs.law.worked_words.Goals as goal

pub returns : goal.returns
returns c = record { asked = ask_with_options; nothing = ask_for_nothing }

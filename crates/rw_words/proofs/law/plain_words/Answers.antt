use Rattle.rw_words.proofs.Plain.{plain_words}
use Rattle.rw_words.proofs.law.plain_words.Goals as goal

pub returns : goal.returns
returns c = plain_words

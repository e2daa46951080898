use Rattle.rw_words.proofs.Sample.{sample_words}
use Rattle.rw_words.proofs.law.sample_words.Goals as goal

pub returns : goal.returns
returns c = sample_words

use Rattle.rpl_parse.proofs.CutFacts.{some_reading_holds, one_reading_holds}
use Rattle.rpl_parse.proofs.law.one_reading.Goals as goal

pub returns : goal.returns
returns c = record { some = some_reading_holds; one = one_reading_holds }

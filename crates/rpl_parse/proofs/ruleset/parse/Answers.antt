use Rattle.rpl_parse.proofs.Answering.{answers_reading}
use Rattle.rpl_parse.proofs.ruleset.parse.Goals as goal

pub returns-clause-reading : goal.returns-clause-reading
returns-clause-reading c = answers_reading c.args.text.now c.rules_in.result c.rules_in.ensures.reading

use Rattle.rw_commands.proofs.Common.{Ok}
use Rattle.rpl_parse.proofs.Answering.{tells_due}
use Rattle.rw_commands.proofs.judging.parse_rules.Goals as goal

pub returns-in-Ok-clause-read : goal.returns-in-Ok-clause-read
returns-in-Ok-clause-read c = tells_due c.args.text.now (Ok c.in-Ok.rules) c.in-Ok.ensures.reading

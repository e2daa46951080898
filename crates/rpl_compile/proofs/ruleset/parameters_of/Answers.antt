use Rattle.rpl_compile.proofs.Common.{map, parameter_of, written_takes}
use Rattle.rpl_compile.proofs.Found.{codes_seen}
use Rattle.rpl_compile.proofs.ruleset.parameters_of.Goals as goal

pub returns : goal.returns
returns c = codes_seen c.in_ok-kinds.kinds.items (written_takes (map parameter_of c.args.params.now)) c.in_ok-kinds.ensures

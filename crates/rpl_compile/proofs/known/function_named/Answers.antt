use Rattle.rpl_compile.proofs.Common.{callee_seen, map}
use Rattle.rpl_compile.proofs.Found.{function_found}
use Rattle.rpl_compile.proofs.known.function_named.Goals as goal

pub loop-entry-init : goal.loop-entry-init
loop-entry-init c = function_found c.args.name.now (map callee_seen c.args.known.now)

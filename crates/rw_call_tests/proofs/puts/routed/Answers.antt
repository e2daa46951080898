use Rattle.std.proofs.Common.{pos}
use Rattle.rw_call_tests.proofs.puts.routed.Goals as goal

pub returns : goal.returns
returns c view balanced past inflow outflow = (balanced (pos 1001) (pos 0) (pos 250) past inflow outflow).1

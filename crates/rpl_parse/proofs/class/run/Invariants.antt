use Rattle.std.proofs.Common.{◌≡◌, ◌+◌, drop}
use Rattle.rpl_parse.specs.Scan.{run}
use Rattle.rpl_parse.proofs.class.run.Given as goal

abbrev pub invariant-loop-at : goal.invariant-loop-at
invariant-loop-at l = l.at + run l.class (drop l.at l.bytes) ≡ run l.class l.bytes

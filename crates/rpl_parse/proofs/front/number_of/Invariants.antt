use Rattle.std.proofs.Common.{◌≡◌, ◌≤◌, drop}
use Rattle.rpl_parse.specs.Scan.{number_of, greatest}
use Rattle.rpl_parse.proofs.front.number_of.Given as goal

abbrev pub invariant-loop-digit : goal.invariant-loop-digit
invariant-loop-digit l = record {
  same : number_of l.value (drop l.digit-index l.digits) ≡ number_of 0 l.digits;
  within : l.value ≤ greatest;
}

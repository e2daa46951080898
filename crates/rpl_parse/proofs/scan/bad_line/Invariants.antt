use Rattle.std.proofs.Common.{◌≡◌, ◌≤◌, ◌+◌, ◌-◌, List, length, drop}
use Rattle.rpl_parse.specs.Cut.{scanned_at}
use Rattle.rpl_parse.specs.Scan.{scan, led_by}
use Rattle.rpl_parse.specs.Tokens.{Lined}
use Rattle.rpl_parse.proofs.scan.bad_line.Given as goal

abbrev pub invariant-loop-at : goal.invariant-loop-at
invariant-loop-at l = record {
  same : (ts : List Lined) × (led_by ts (scan 0 l.line (drop l.at l.text)) ≡ scanned_at l.text l.fn.from);
  inside : l.at ≤ length l.text;
  line : l.line ≤ l.at + 1;
}

abbrev pub decreases-loop-at : goal.decreases-loop-at
decreases-loop-at l = length l.text - l.at

use Rattle.std.proofs.Common.{◌≡◌, ◌≤◌, ◌+◌, ◌-◌, length, map, drop}
use Rattle.rpl_parse.specs.Cut.{scanned_at}
use Rattle.rpl_parse.specs.Scan.{scan, led_by}
use Rattle.rpl_parse.specs.Tokens.{lined_of}
use Rattle.rpl_parse.proofs.CutFacts.{Unended}
use Rattle.rpl_parse.proofs.scan.next_tokens.Given as goal

abbrev pub invariant-loop-at : goal.invariant-loop-at
invariant-loop-at l = record {
  same : led_by (map (lined_of l.text) l.tokens.items) (scan 0 l.line (drop l.at l.text)) ≡ scanned_at l.text l.fn.from;
  unended : Unended l.text l.tokens.items;
  inside : l.at ≤ length l.text;
  line : l.line ≤ l.at + 1;
  on : l.fn.from.at + length l.tokens.items ≤ l.at;
}

abbrev pub decreases-loop-at : goal.decreases-loop-at
decreases-loop-at l = length l.text - l.at

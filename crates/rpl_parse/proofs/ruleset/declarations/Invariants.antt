use Rattle.std.proofs.Common.{◌≡◌, ◌≤◌, ◌+◌, map}
use Rattle.rpl_tree.specs.Seen.{declared_of}
use Rattle.rpl_parse.specs.Cut.{IsPlaceIn, scanned_at}
use Rattle.rpl_parse.specs.Declarations.{Due, IsReading}
use Rattle.rpl_parse.proofs.CutFacts.{IsDueFrom}
use Rattle.rpl_parse.proofs.ruleset.declarations.Given as goal

abbrev pub invariant-loop-turn : goal.invariant-loop-turn
invariant-loop-turn l = record {
  due : (due : Due) → IsDueFrom l.number l.rules l.functions (map declared_of l.found.items) (scanned_at l.text l.from) due
      → IsReading l.text due;
  inside : IsPlaceIn l.text l.from;
  on : l._turn ≤ l.from.at;
  number : l.number ≡ l._turn + 1;
  rules : l.rules ≤ l._turn;
  functions : l.functions ≤ l._turn;
}

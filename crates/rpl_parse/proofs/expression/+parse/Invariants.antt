use Rattle.std.proofs.Common.{Some, ◌≡◌, ◌≤◌, ◌+◌, ◌-◌, ◌*◌, length, map}
use Rattle.rpl_tree.specs.Seen.{tree_of}
use Rattle.rpl_parse.specs.Reading.{read_tree, steps, chain, turns_of, got, many, items, climbed}
use Rattle.rpl_parse.specs.Tokens.{toks}
use Rattle.rpl_parse.proofs.expression.+parse.Given as goal

abbrev pub decreases-expression : goal.decreases-expression
decreases-expression l = 1000 * l.limit

abbrev pub decreases-level : goal.decreases-level
decreases-level l = 1000 * l.depth + 7

abbrev pub decreases-begun : goal.decreases-begun
decreases-begun l = 1000 * l.depth + 6

abbrev pub decreases-rise : goal.decreases-rise
decreases-rise l = 1000 * l.depth + 3

abbrev pub decreases-climb : goal.decreases-climb
decreases-climb l = 1000 * l.depth + 4

abbrev pub decreases-up_to : goal.decreases-up_to
decreases-up_to l = 1000 * l.depth + 1

abbrev pub decreases-operand : goal.decreases-operand
decreases-operand l = 1000 * l.depth + 1

abbrev pub decreases-more : goal.decreases-more
decreases-more l = 1000 * l.depth + 1

abbrev pub decreases-items : goal.decreases-items
decreases-items l = 1000 * l.depth + 2

abbrev pub decreases-date : goal.decreases-date
decreases-date l = 1000 * l.depth + 2

abbrev pub decreases-steps : goal.decreases-steps
decreases-steps l = 1000 * l.depth + 3

abbrev pub decreases-chain : goal.decreases-chain
decreases-chain l = 1000 * l.depth + 2

abbrev pub decreases-in_brackets : goal.decreases-in_brackets
decreases-in_brackets l = 1000 * l.depth + 2

abbrev pub decreases-choices : goal.decreases-choices
decreases-choices l = 1000 * l.depth + 2

abbrev pub decreases-binds : goal.decreases-binds
decreases-binds l = 1000 * l.depth + 2

abbrev pub decreases-loops : goal.decreases-loops
decreases-loops l = 1000 * l.depth + 2

abbrev pub decreases-maps : goal.decreases-maps
decreases-maps l = 1000 * l.depth + 2

abbrev pub decreases-of_one : goal.decreases-of_one
decreases-of_one l = 1000 * l.depth + 2

abbrev pub decreases-of_two : goal.decreases-of_two
decreases-of_two l = 1000 * l.depth + 2

abbrev pub decreases-converts : goal.decreases-converts
decreases-converts l = 1000 * l.depth + 2

abbrev pub decreases-arguments : goal.decreases-arguments
decreases-arguments l = 1000 * l.depth + 3

abbrev pub decreases-braces : goal.decreases-braces
decreases-braces l = 1000 * l.depth + 3

abbrev pub decreases-named : goal.decreases-named
decreases-named l = 1000 * l.depth + 4

abbrev pub decreases-opened : goal.decreases-opened
decreases-opened l = 1000 * l.depth + 4

abbrev pub decreases-primary : goal.decreases-primary
decreases-primary l = 1000 * l.depth + 5

abbrev pub invariant-more-loop-turn : goal.invariant-more-loop-turn
invariant-more-loop-turn l = record {
  same : items (read_tree l.depth) l.depth (length l.tokens - l._turn) (many (map tree_of l.items.items) l.most (toks l.text l.rest))
      ≡ items (read_tree l.depth) l.depth (length l.tokens) (many (map tree_of l.fn.first.items) l.fn.deep (toks l.text l.tokens));
  within : l.most ≤ l.depth;
}

abbrev pub invariant-steps-loop-turn : goal.invariant-steps-loop-turn
invariant-steps-loop-turn l = record {
  same : steps (read_tree l.depth) l.depth (l.depth - l._turn) (got (tree_of l.slot) l.deep (toks l.text l.rest))
      ≡ steps (read_tree l.depth) l.depth l.depth (got (tree_of l.fn.first) l.fn.first_deep (toks l.text l.tokens));
  within : l.deep ≤ l.depth + 1;
}

abbrev pub invariant-chain-loop-turn : goal.invariant-chain-loop-turn
invariant-chain-loop-turn l = record {
  same : chain (read_tree l.depth) l.depth l.k (turns_of l.k l.depth - l._turn) (got (tree_of l.left) l.deep (toks l.text l.rest))
      ≡ chain (read_tree l.depth) l.depth l.k (turns_of l.k l.depth) (got (tree_of l.fn.first) l.fn.first_deep (toks l.text l.tokens));
  within : l.deep ≤ l.depth + 1;
}

abbrev pub invariant-climb-loop-below : goal.invariant-climb-loop-below
invariant-climb-loop-below l = record {
  same : climbed (read_tree l.depth) l.depth l.below (l.k - l.below) (Some (got (tree_of l.left) l.deep (toks l.text l.rest)))
      ≡ climbed (read_tree l.depth) l.depth l.start (l.k - l.start) (Some (got (tree_of l.fn.first) l.fn.first_deep (toks l.text l.tokens)));
  within : l.deep ≤ l.depth + 1;
}

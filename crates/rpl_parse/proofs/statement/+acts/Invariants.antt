use Rattle.std.proofs.Common.{◌≡◌, ◌≤◌, ◌+◌, ◌-◌, ◌*◌, length, map}
use Rattle.rpl_tree.specs.Seen.{act_of}
use Rattle.rpl_parse.specs.ReadingActs.{read_acts, more_acts, done, act_at}
use Rattle.rpl_parse.specs.Tokens.{toks}
use Rattle.rpl_parse.proofs.statement.+acts.Given as goal

abbrev pub decreases-statements : goal.decreases-statements
decreases-statements l = 5 * l.limit + 1

abbrev pub decreases-statement : goal.decreases-statement
decreases-statement l = 5 * l.limit

abbrev pub decreases-otherwise : goal.decreases-otherwise
decreases-otherwise l = 5 * l.depth + 2

abbrev pub decreases-branches : goal.decreases-branches
decreases-branches l = 5 * l.depth + 3

abbrev pub decreases-withs : goal.decreases-withs
decreases-withs l = 5 * l.depth + 3

abbrev pub invariant-statements-loop-turn : goal.invariant-statements-loop-turn
invariant-statements-loop-turn l = record {
  same : more_acts (act_at l.limit) (length l.tokens - l._turn) (done (map act_of l.acts.items) l.most (toks l.text l.rest))
      ≡ read_acts l.limit (toks l.text l.tokens);
  within : l.most ≤ l.limit;
}

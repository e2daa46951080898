use Rattle.std.proofs.Common.{◌≡◌, ◌≤◌, drop, length}
use Rattle.rpl_tree.specs.Seen.{acts_in}
use Rattle.rpl_budget.specs.Pass.{pass_acts}
use Rattle.rpl_budget.specs.Seen.{names_of}
use Rattle.rpl_budget.proofs.acts.+acts.Given as goal

abbrev pub invariant-acts-loop-k : goal.invariant-acts-loop-k
invariant-acts-loop-k l = record {
  found : l.others ≡ pass_acts l.known (names_of l.fn.names) (acts_in (drop l.k l.statements));
  same : l.names ≡ l.fn.names;
  within : l.k ≤ length l.statements;
}

abbrev pub decreases-acts-loop-k : goal.decreases-acts-loop-k
decreases-acts-loop-k l = l.k

use Rattle.std.proofs.Common.{◌≡◌, ◌≤◌, ◌+◌, ◌*◌, drop, length, max}
use Rattle.rpl_tree.specs.declared.expression.Expr.{size-Expr}
use Rattle.rpl_tree.specs.Seen.{trees_in}
use Rattle.rpl_budget.specs.Pass.{pass_all, pass_arguments}
use Rattle.rpl_budget.specs.Seen.{tree_kinds_seen, measured_seen, names_of}
use Rattle.rpl_budget.proofs.pass.+pass.Given as goal

abbrev pub invariant-elements-loop-k : goal.invariant-elements-loop-k
invariant-elements-loop-k l = record {
  found : measured_seen l.others ≡ pass_all l.known (names_of l.fn.names) (trees_in (drop l.k l.items));
  same : l.names ≡ l.fn.names;
  within : l.k ≤ length l.items;
}

abbrev pub decreases-elements-loop-k : goal.decreases-elements-loop-k
decreases-elements-loop-k l = l.k

abbrev pub invariant-arguments-loop-k : goal.invariant-arguments-loop-k
invariant-arguments-loop-k l = record {
  found : l.others ≡ pass_arguments l.known (names_of l.fn.names) (tree_kinds_seen (drop l.k l.takes)) (trees_in (drop l.k l.args));
  same : l.names ≡ l.fn.names;
  within : l.k ≤ length l.args;
}

abbrev pub decreases-arguments-loop-k : goal.decreases-arguments-loop-k
decreases-arguments-loop-k l = l.k

abbrev pub decreases-pass : goal.decreases-pass
decreases-pass l = 4 * goal.size-pass l

abbrev pub decreases-elements : goal.decreases-elements
decreases-elements l = 4 * goal.size-elements l + 1

abbrev pub decreases-arguments : goal.decreases-arguments
decreases-arguments l = 4 * goal.size-arguments l + 1

abbrev pub decreases-list : goal.decreases-list
decreases-list l = 4 * goal.size-list l + 2

abbrev pub decreases-call : goal.decreases-call
decreases-call l = 4 * goal.size-call l + 2

abbrev pub decreases-inside : goal.decreases-inside
decreases-inside l = 4 * goal.size-inside l + 1

abbrev pub decreases-inside_turn : goal.decreases-inside_turn
decreases-inside_turn l = 4 * goal.size-inside_turn l + 2

abbrev pub decreases-one : goal.decreases-one
decreases-one l = 4 * goal.size-one l + 1

abbrev pub decreases-convert : goal.decreases-convert
decreases-convert l = 4 * goal.size-convert l + 1

abbrev pub decreases-two : goal.decreases-two
decreases-two l = 4 * max (size-Expr l.left.now) (size-Expr l.right.now) + 1

abbrev pub decreases-look : goal.decreases-look
decreases-look l = 4 * max (size-Expr l.slot.now) (size-Expr l.step.now) + 1

abbrev pub decreases-choice : goal.decreases-choice
decreases-choice l = 4 * max (size-Expr l.condition.now) (max (size-Expr l.yes.now) (size-Expr l.no.now)) + 1

abbrev pub decreases-bind : goal.decreases-bind
decreases-bind l = 4 * max (size-Expr l.value.now) (size-Expr l.body.now) + 2

abbrev pub decreases-mapping : goal.decreases-mapping
decreases-mapping l = 4 * max (size-Expr l.list.now) (size-Expr l.body.now) + 2

abbrev pub decreases-each : goal.decreases-each
decreases-each l = 4 * max (size-Expr l.list.now) (max (size-Expr l.first.now) (size-Expr l.body.now)) + 3

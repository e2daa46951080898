use Rattle.rw_base.proofs.Common.{◌≡◌, ◌+◌, ◌*◌, [], drop, max}
use Rattle.rpl_tree.specs.declared.expression.Expr.{size-Expr}
use Rattle.rpl_tree.specs.Seen.{trees_in}
use Rattle.rpl_types.specs.Gives.{callable_in}
use Rattle.rpl_types.specs.Stopped.{progress_of}
use Rattle.rpl_types.specs.Visited.{visited_all}
use Rattle.rpl_types.proofs.visit.+visit.Given as goal

abbrev pub invariant-row-loop-item : goal.invariant-row-loop-item
invariant-row-loop-item l =
    visited_all l.known.basin.now (callable_in l.known) l.found.items (progress_of l.progress) (trees_in (drop l.item-index l.items))
    ≡ visited_all l.known.basin.now (callable_in l.known) [] (progress_of l.initial.progress) (trees_in l.items)

abbrev pub decreases-visit : goal.decreases-visit
decreases-visit l = 3 * goal.size-visit l

abbrev pub decreases-row : goal.decreases-row
decreases-row l = 3 * goal.size-row l + 1

abbrev pub decreases-call : goal.decreases-call
decreases-call l = 3 * goal.size-call l + 2

abbrev pub decreases-list : goal.decreases-list
decreases-list l = 3 * goal.size-list l + 2

abbrev pub decreases-brackets : goal.decreases-brackets
decreases-brackets l = 3 * goal.size-brackets l + 1

abbrev pub decreases-one : goal.decreases-one
decreases-one l = 3 * goal.size-one l + 1

abbrev pub decreases-convert : goal.decreases-convert
decreases-convert l = 3 * goal.size-convert l + 1

abbrev pub decreases-two : goal.decreases-two
decreases-two l = 3 * max (size-Expr l.left.now) (size-Expr l.right.now) + 1

abbrev pub decreases-look : goal.decreases-look
decreases-look l = 3 * max (size-Expr l.slot.now) (size-Expr l.step.now) + 1

abbrev pub decreases-bind : goal.decreases-bind
decreases-bind l = 3 * max (size-Expr l.value.now) (size-Expr l.body.now) + 1

abbrev pub decreases-mapped : goal.decreases-mapped
decreases-mapped l = 3 * max (size-Expr l.list.now) (size-Expr l.body.now) + 1

abbrev pub decreases-choice : goal.decreases-choice
decreases-choice l = 3 * max (size-Expr l.condition.now) (max (size-Expr l.yes.now) (size-Expr l.no.now)) + 1

abbrev pub decreases-each : goal.decreases-each
decreases-each l = 3 * max (size-Expr l.list.now) (max (size-Expr l.first.now) (size-Expr l.body.now)) + 1

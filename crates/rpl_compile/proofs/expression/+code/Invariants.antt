use Rattle.rpl_compile.proofs.Common.{callees_of, compiled_all, compiled_arguments, drop, kinds_seen, max, trees_in, written_of, ◌*◌, ◌+◌, ◌≡◌}
use Rattle.rpl_tree.specs.declared.expression.Expr.{size-Expr}
use Rattle.rpl_compile.proofs.expression.+code.Given as goal

abbrev pub invariant-elements-loop-item : goal.invariant-elements-loop-item
invariant-elements-loop-item l =
    compiled_all (callees_of l.known) (written_of l.w) (trees_in (drop l.item-index l.items))
    ≡ compiled_all (callees_of l.known) (written_of l.fn.w) (trees_in l.items)

abbrev pub invariant-arguments-loop-arg : goal.invariant-arguments-loop-arg
invariant-arguments-loop-arg l =
    compiled_arguments (callees_of l.known) (written_of l.w) (kinds_seen (drop l.k l.takes)) (trees_in (drop l.arg-index l.args))
    ≡ compiled_arguments (callees_of l.known) (written_of l.fn.w) (kinds_seen l.takes) (trees_in l.args)

abbrev pub decreases-code : goal.decreases-code
decreases-code l = 4 * goal.size-code l

abbrev pub decreases-argument : goal.decreases-argument
decreases-argument l = 4 * goal.size-argument l + 1

abbrev pub decreases-arguments : goal.decreases-arguments
decreases-arguments l = 4 * goal.size-arguments l + 2

abbrev pub decreases-elements : goal.decreases-elements
decreases-elements l = 4 * goal.size-elements l + 1

abbrev pub decreases-call : goal.decreases-call
decreases-call l = 4 * goal.size-call l + 3

abbrev pub decreases-list : goal.decreases-list
decreases-list l = 4 * goal.size-list l + 2

abbrev pub decreases-one : goal.decreases-one
decreases-one l = 4 * goal.size-one l + 1

abbrev pub decreases-asked_of : goal.decreases-asked_of
decreases-asked_of l = 4 * goal.size-asked_of l

abbrev pub decreases-convert : goal.decreases-convert
decreases-convert l = 4 * goal.size-convert l + 1

abbrev pub decreases-two : goal.decreases-two
decreases-two l = 4 * max (size-Expr l.left.now) (size-Expr l.right.now) + 2

abbrev pub decreases-or : goal.decreases-or
decreases-or l = 4 * max (size-Expr l.left.now) (size-Expr l.right.now) + 1

abbrev pub decreases-and : goal.decreases-and
decreases-and l = 4 * max (size-Expr l.left.now) (size-Expr l.right.now) + 1

abbrev pub decreases-asked : goal.decreases-asked
decreases-asked l = 4 * max (size-Expr l.slot.now) (size-Expr l.step.now) + 1

abbrev pub decreases-look : goal.decreases-look
decreases-look l = 4 * max (size-Expr l.slot.now) (size-Expr l.step.now) + 2

abbrev pub decreases-bind : goal.decreases-bind
decreases-bind l = 4 * max (size-Expr l.value.now) (size-Expr l.body.now) + 1

abbrev pub decreases-mapped : goal.decreases-mapped
decreases-mapped l = 4 * max (size-Expr l.list.now) (size-Expr l.body.now) + 1

abbrev pub decreases-choice : goal.decreases-choice
decreases-choice l = 4 * max (size-Expr l.condition.now) (max (size-Expr l.yes.now) (size-Expr l.no.now)) + 1

abbrev pub decreases-each : goal.decreases-each
decreases-each l = 4 * max (size-Expr l.list.now) (max (size-Expr l.first.now) (size-Expr l.body.now)) + 1

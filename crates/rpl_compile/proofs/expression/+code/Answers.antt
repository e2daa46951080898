use Rattle.rpl_compile.proofs.Common.{Tree, ap, ap₂, at, call, callees_of, choice, compiled, each, subst, sym, tree_of, tree_of_call, trees_in, two}
use Rattle.rpl_compile.proofs.Common.{written_of, ◌∙◌}
use Rattle.rpl_compile.specs.Writes.{WritesKind}
use Rattle.rpl_compile.proofs.expression.+code.Goals as goal

pub code-returns-in-Call : goal.code-returns-in-Call
code-returns-in-Call t c =
    let same = ap₂ call c.deref-in-Call.ensures.value (ap trees_in c.deref-in-Call-2.ensures.value)
    ∙ sym (tree_of_call c.in-Call.name c.in-Call.args) in
    rw c.in-Call.is
    (subst (λ (expression : Tree).
    WritesKind c.call.new.w c.call.result (compiled (callees_of c.args.known.now) (written_of c.args.w.now) expression)) same
    c.call.ensures)

pub code-returns-in-If : goal.code-returns-in-If
code-returns-in-If t c =
    rw c.in-If.is
    (subst (λ (expression : Tree).
    WritesKind c.choice.new.w c.choice.result (compiled (callees_of c.args.known.now) (written_of c.args.w.now) expression))
    (λ i. choice (tree_of (c.deref-in-If.ensures i)) (tree_of (c.deref-in-If-2.ensures i)) (tree_of (c.deref-in-If-3.ensures i))) c.choice.ensures)

pub code-returns-in-For : goal.code-returns-in-For
code-returns-in-For t c =
    rw c.in-For.is
    (subst (λ (expression : Tree).
    WritesKind c.each.new.w c.each.result (compiled (callees_of c.args.known.now) (written_of c.args.w.now) expression))
    (λ i. each (c.deref-in-For.ensures i).name.items (tree_of (c.deref-in-For-2.ensures i)) (c.deref-in-For.ensures i).total.items
    (tree_of (c.deref-in-For-3.ensures i)) (tree_of (c.deref-in-For-4.ensures i)))
    c.each.ensures)

pub code-returns-in-Two : goal.code-returns-in-Two
code-returns-in-Two t c =
    rw c.in-Two.is
    (subst (λ (expression : Tree). WritesKind c.two.new.w c.two.result (compiled (callees_of c.args.known.now) (written_of c.args.w.now) expression))
    (λ i. two c.in-Two.word (tree_of (c.deref-in-Two.ensures i).first) (tree_of (c.deref-in-Two-2.ensures i).second)) c.two.ensures)

pub code-returns-in-At : goal.code-returns-in-At
code-returns-in-At t c =
    rw c.in-At.is
    (subst (λ (expression : Tree). WritesKind c.look.new.w c.look.result (compiled (callees_of c.args.known.now) (written_of c.args.w.now) expression))
    (λ i. at (tree_of (c.deref-in-At.ensures i).first) (tree_of (c.deref-in-At-2.ensures i).second)) c.look.ensures)

use Rattle.std.proofs.Common.{◌∙◌, ap, ap₂, subst, sym}
use Rattle.rpl_tree.proofs.Common.{Tree, call, trees_in, tree_of_call}
use Rattle.rpl_types.specs.Gives.{Visits}
use Rattle.rpl_types.proofs.visit.+visit.Goals as goal

pub visit-returns-in-Call : goal.visit-returns-in-Call
visit-returns-in-Call t c =
    let same = ap₂ call c.deref-in-Call.ensures.value (ap trees_in c.deref-in-Call-2.ensures.value)
    ∙ sym (tree_of_call c.in-Call.name c.in-Call.args) in
    rw c.in-Call.is
    (subst (λ (expression : Tree). Visits c.args.known.now c.args.progress.now c.call.new.progress c.call.result expression) same c.call.ensures)

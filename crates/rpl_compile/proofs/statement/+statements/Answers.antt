use Rattle.rpl_compile.proofs.Common.{Acts, List, Written, acts_in, ap, ap₂, branch, callees_of, compiled_act, compiled_acts, subst, sym, tree_of}
use Rattle.rpl_compile.proofs.Common.{with_name, without_name, written_of, ℕ, ◌∙◌}
use Rattle.rpl_tree.proofs.Viewed.{act_of_branch, act_of_with}
use Rattle.rpl_compile.specs.Writes.{LeavesWritten}
use Rattle.rpl_compile.proofs.Acts.{branch_written}
use Rattle.rpl_compile.proofs.statement.+statements.Goals as goal

pub write_statement-returns-in_ok-statements-in-If-2 : goal.write_statement-returns-in_ok-statements-in-If-2
write_statement-returns-in_ok-statements-in-If-2 t c =
    let same = ap₂ (branch (tree_of c.in-If.condition)) (ap acts_in c.deref.ensures.value) (ap acts_in c.deref-in-If.ensures.value)
    ∙ sym (act_of_branch c.in-If.condition c.in-If.yes c.in-If.no) in
    rw c.in-If.is
    (subst (λ (version : Written). LeavesWritten c.end_second.new.w c.end_second.result version)
    (branch_written (callees_of c.args.known.now) (written_of c.args.w.now) _ _ _ _ (tree_of c.in-If.condition)
    (acts_in c.deref.result.now) (acts_in c.deref-in-If.result.now) _ _
    c.in_ok-branch-in-If.ensures.written c.in_ok-branch-in-If.ensures.place c.in_ok-statements-in-If.ensures c.in_ok-jump-in-If.ensures.written
    c.in_ok-jump-in-If.ensures.place c.in_ok-statements-in-If-2.ensures
    ∙ ap (compiled_act (callees_of c.args.known.now) (written_of c.args.w.now)) same)
    c.end_second.ensures)

pub write_statement-returns-in_ok-statements-in-With : goal.write_statement-returns-in_ok-statements-in-With
write_statement-returns-in_ok-statements-in-With t c =
    let same = ap₂ (λ (sought : List ℕ) (body : Acts). with_name sought (tree_of c.in-With.value) body) c.deref-in-With.ensures.value
    (ap acts_in c.deref-in-With-2.ensures.value)
    ∙ sym (act_of_with c.in-With.name c.in-With.value c.in-With.body) in
    let callees = callees_of c.args.known.now in
    let begun = written_of c.args.w.now in
    rw c.in-With.is
    (c.drop_name.ensures ∙ ap without_name c.in_ok-statements-in-With.ensures
    ∙ ap (λ (so_far : Written). without_name (compiled_acts callees so_far (acts_in c.deref-in-With-2.result.now))) c.in_ok-begin_with-in-With.ensures
    ∙ ap (compiled_act callees begun) same)

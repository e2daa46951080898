use Rattle.std.proofs.Common.{rules, ◌≡◌, ◌∙◌, ap, ap₂, subst, sym, List, ℕ, Ok}
use Rattle.rpl_tree.proofs.Common.{Act, Acts, branch, with_name, acts_in, tree_of}
use Rattle.rpl_types.specs.Gives.{VisitsAct, callable_in}
use Rattle.rpl_types.specs.Stopped.{progress_of}
use Rattle.rpl_types.specs.Visited.{visited_act}
use Rattle.rpl_tree.proofs.Viewed.{act_of_branch, act_of_with}
use Rattle.rpl_types.proofs.statements.+statements.Goals as goal

pub visit_statement-returns-in_err-statements-in-If : goal.visit_statement-returns-in_err-statements-in-If
visit_statement-returns-in_err-statements-in-If t c =
    let same = ap (λ (first : Acts). branch (tree_of c.in-If.condition) first (acts_in c.in-If.no.items)) (ap acts_in c.deref.ensures.value)
    ∙ sym (act_of_branch c.in-If.condition c.in-If.yes c.in-If.no) in
    rw c.in-If.is
    (subst (λ (statement : Act). VisitsAct c.args.known.now c.args.progress.now c.statements.new.progress
    c.from_residual-in_err-statements-in-If.result statement) same
    (search rules))

pub visit_statement-returns-in_err-statements-in-If-2 : goal.visit_statement-returns-in_err-statements-in-If-2
visit_statement-returns-in_err-statements-in-If-2 t c =
    let same = ap₂ (branch (tree_of c.in-If.condition)) (ap acts_in c.deref.ensures.value) (ap acts_in c.deref-in-If.ensures.value)
    ∙ sym (act_of_branch c.in-If.condition c.in-If.yes c.in-If.no) in
    rw c.in-If.is
    (subst (λ (statement : Act). VisitsAct c.args.known.now c.args.progress.now c.statements-in-If.new.progress
    c.from_residual-in_err-statements-in-If-2.result statement) same
    (search rules))

pub visit_statement-returns-in_ok-statements-in-If-2 : goal.visit_statement-returns-in_ok-statements-in-If-2
visit_statement-returns-in_ok-statements-in-If-2 t c =
    let same = ap₂ (branch (tree_of c.in-If.condition)) (ap acts_in c.deref.ensures.value) (ap acts_in c.deref-in-If.ensures.value)
    ∙ sym (act_of_branch c.in-If.condition c.in-If.yes c.in-If.no) in
    rw c.in-If.is
    (subst (λ (statement : Act). VisitsAct c.args.known.now c.args.progress.now c.statements-in-If.new.progress c.stand.result statement) same
    (search rules))

pub visit_statement-returns-in_err-statements-in-With : goal.visit_statement-returns-in_err-statements-in-With
visit_statement-returns-in_err-statements-in-With t c =
    let same = ap₂ (λ (sought : List ℕ) (body : Acts). with_name sought (tree_of c.in-With.value) body) c.deref-in-With.ensures.value
    (ap acts_in c.deref-in-With-2.ensures.value)
    ∙ sym (act_of_with c.in-With.name c.in-With.value c.in-With.body) in
    rw c.in-With.is
    (subst (λ (statement : Act). VisitsAct c.args.known.now c.args.progress.now c.statements-in-With.new.progress
    c.from_residual-in_err-statements-in-With.result statement) same
    (search rules))

pub visit_statement-returns-in_ok-statements-in-With : goal.visit_statement-returns-in_ok-statements-in-With
visit_statement-returns-in_ok-statements-in-With t c =
    let same = ap₂ (λ (sought : List ℕ) (body : Acts). with_name sought (tree_of c.in-With.value) body) c.deref-in-With.ensures.value
    (ap acts_in c.deref-in-With-2.ensures.value)
    ∙ sym (act_of_with c.in-With.name c.in-With.value c.in-With.body) in
    rw c.in-With.is
    (subst (λ (statement : Act). visited_act c.args.known.now.basin.now (callable_in c.args.known.now) (progress_of c.args.progress.now) statement
    ≡ Ok (progress_of c.drop_variable.new.progress)) same
    (search rules))

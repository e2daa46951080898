use Rattle.std.proofs.Common.{◌∷◌, ap, ap₂, sym, ◌∙◌}
use Rattle.rpl_tree.specs.Seen.{act_of, acts_in, tree_of}
use Rattle.rpl_budget.specs.Pass.{Measured, measured_binding, load_of_branches, pass, pass_act, pass_acts}
use Rattle.rpl_budget.specs.Seen.{tree_kind_seen, measured_seen, names_of}
use Rattle.rpl_tree.proofs.Viewed.{act_of_branch, act_of_with}
use Rattle.rpl_budget.proofs.acts.+acts.Goals as goal

pub act-returns-in_ok-second-in-If-clause-found : goal.act-returns-in_ok-second-in-If-clause-found
act-returns-in_ok-second-in-If-clause-found t c =
    let functions = c.args.known.now in
    let names = names_of c.args.names.now in
    let test = c.in_ok-test-in-If.ensures in
    let first = c.in_ok-first-in-If.ensures in
    let found = first.found ∙ ap₂ (λ ns ss. pass_acts functions (names_of ns) (acts_in ss)) test.names c.deref.ensures.value in
    let other = c.in_ok-second-in-If.ensures.found
    ∙ ap₂ (λ ns ss. pass_acts functions (names_of ns) (acts_in ss)) (first.names ∙ test.names) c.deref-in-If.ensures.value in
    c.branched.ensures ∙ ap (λ (of_part : Measured). load_of_branches of_part.load c.in_ok-first-in-If.first c.in_ok-second-in-If.second) test.found
    ∙ ap₂ (load_of_branches (pass functions names (tree_of c.in-If.condition)).load) found other
    ∙ ap (pass_act functions names) (sym (act_of_branch c.in-If.condition c.in-If.yes c.in-If.no) ∙ ap act_of (sym c.in-If.is))

pub act-returns-in_ok-inside-in-With-clause-found : goal.act-returns-in_ok-inside-in-With-clause-found
act-returns-in_ok-inside-in-With-clause-found t c =
    let functions = c.args.known.now in
    let names = names_of c.args.names.now in
    let value = c.in_ok-value-in-With in
    let kind = tree_kind_seen value.value.kind in
    let found = c.in_ok-inside-in-With.ensures.found
    ∙ ap (λ x. pass_acts functions ((x, kind) ∷ names_of c.pass-in-With.new.names) (acts_in c.deref-in-With-2.result.now))
    c.deref-in-With.ensures.value
    ∙ ap₂ (λ ns ss. pass_acts functions ((c.in-With.name.items, kind) ∷ names_of ns) (acts_in ss)) value.ensures.names
    c.deref-in-With-2.ensures.value in
    c.bound.ensures ∙ ap (measured_binding (measured_seen value.value)) found
    ∙ ap (λ (of_part : Measured).
    measured_binding of_part (pass_acts functions ((c.in-With.name.items, of_part.kind) ∷ names) (acts_in c.in-With.body.items)))
    value.ensures.found
    ∙ ap (pass_act functions names) (sym (act_of_with c.in-With.name c.in-With.value c.in-With.body) ∙ ap act_of (sym c.in-With.is))

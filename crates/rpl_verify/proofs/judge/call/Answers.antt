use Rattle.std.proofs.Common.{Some, sym, ap, ◌∙◌, subst}
use Rattle.rpl_tree.specs.Mean.{predefined_functions}
use Rattle.rpl_verify.specs.Table.{function_named}
use Rattle.rpl_verify.specs.Walked.{Goes}
use Rattle.rpl_verify.specs.Steps.{taken_by}
use Rattle.rpl_verify.proofs.JudgeFacts.{counted}
use Rattle.rpl_verify.proofs.judge.call.Goals as goal

pub returns-in-Some-eq1 : goal.returns-in-Some-eq1
returns-in-Some-eq1 c =
    let known = function_named predefined_functions c.args.name.now in
    let row = counted known 1 (sym c.predefined_count.ensures ∙ c.in-Some-eq1.is ∙ ap Some c.in-Some-eq1.field-0-test) in
    subst (λ r. Goes (taken_by r c.args.walk.now.before) c.args.walk.now c.pass.new.walk c.pass.result) (sym row) c.pass.ensures

pub returns-in-Some-eq2 : goal.returns-in-Some-eq2
returns-in-Some-eq2 c =
    let known = function_named predefined_functions c.args.name.now in
    let row = counted known 2 (sym c.predefined_count.ensures ∙ c.in-Some-eq2.is ∙ ap Some c.in-Some-eq2.field-0-test) in
    subst (λ r. Goes (taken_by r c.args.walk.now.before) c.args.walk.now c.pass-in-Some-eq2.new.walk c.pass-in-Some-eq2.result) (sym row)
    c.pass-in-Some-eq2.ensures

pub returns-in-Some-eq3 : goal.returns-in-Some-eq3
returns-in-Some-eq3 c =
    let known = function_named predefined_functions c.args.name.now in
    let row = counted known 3 (sym c.predefined_count.ensures ∙ c.in-Some-eq3.is ∙ ap Some c.in-Some-eq3.field-0-test) in
    subst (λ r. Goes (taken_by r c.args.walk.now.before) c.args.walk.now c.pass-in-Some-eq3.new.walk c.pass-in-Some-eq3.result) (sym row)
    c.pass-in-Some-eq3.ensures

use Rattle.rpl_compile.specs.Budgets.{accepted_code}
use Rattle.rpl_compile.specs.Translate.{translate}
use Rattle.rw_ahead.specs.Ahead.{ahead_to}
use Rattle.rw_promise.proofs.law.migration.runs_of_rulesets.Goals as goal

pub returns : goal.returns
returns c = λ basin most rules types inputs log more judged few fewer run.
    let far = ahead_to most basin in
    let here = c.accepted.ensures basin rules types judged in
    let there = c.accepted.ensures far rules types (c.rulesets_stay_accepted.ensures basin most rules types more judged) in
    let code = c.compiled_code_is_accepted.ensures basin rules here few fewer in
    let by_code = (c.rulesets_have_runs.ensures.same basin rules inputs log here few fewer).0 run in
    (c.rulesets_have_runs.ensures.same far rules inputs log there few fewer).1
    (c.runs_of_code.ensures basin most (translate rules) (accepted_code basin rules) inputs log more code by_code)

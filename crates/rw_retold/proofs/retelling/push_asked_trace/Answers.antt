use Rattle.rw_base.proofs.Common.{OnOk, ap, append_assoc, codes, string_bytes, subst, ◌++◌, ◌∙◌, ◌≡◌}
use Rattle.rw_inputs.specs.Placings.{placings}
use Rattle.rw_run.specs.Trace.{lines_in}
use Rattle.rw_rules.specs.Rules.{policy_in}
use Rattle.rw_asked.specs.Asked.{asked_trace}
use Rattle.rw_asked.specs.Words.{asked_lines_words}
use Rattle.rw_retold.proofs.Walking.{stands_first}
use Rattle.rw_retold.proofs.retelling.push_asked_trace.Goals as goal

pub returns : goal.returns
returns g c = λ log events leads are.
    let basin = c.args.setup.now.basin.now in
    let policy = policy_in basin c.args.setup.now.policy.now in
    let told = asked_lines_words basin (asked_trace basin policy log) in
    subst (λ whole. OnOk c.tell_all.result (string_bytes c.tell_all.new.text ≡ whole))
    (ap (λ t. t ++ told) c.in_ok-push_str.ensures.bytes ∙ append_assoc (string_bytes c.args.text.now) (codes "# trace\n") told)
    (c.tell_all.ensures log _
    (stands_first basin policy (placings basin c.args.inputs.now) log events (lines_in c.args.trace.now) _ _ leads are c.in_ok-walk.ensures.cells))

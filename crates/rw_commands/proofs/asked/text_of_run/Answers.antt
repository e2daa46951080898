use Rattle.rw_commands.proofs.Common.{ap, rules, string_bytes, ◌++◌, ◌∙◌, ◌≡◌}
use Rattle.rw_rules.specs.Rules.{policy_in}
use Rattle.rw_asked.specs.Asked.{asked_trace}
use Rattle.rw_asked.specs.Words.{asked_trace_words}
use Rattle.rw_commands.proofs.asked.text_of_run.Goals as goal

pub push_asked_trace-requires-clause-can : goal.push_asked_trace-requires-clause-can
push_asked_trace-requires-clause-can g c = record { fits = c.requires.fits; inputs = c.requires.inputs }

pub returns : goal.returns
returns g c = λ log events leads are.
    let basin = c.args.setup.now.basin.now in
    let words = asked_trace_words basin (asked_trace basin (policy_in basin c.args.setup.now.policy.now) log) in
    let bytes : c.into_bytes.result.items ≡ string_bytes c.push_asked_trace.new.text = search rules in
    bytes ∙ c.in_ok-push_asked_trace.ensures log events leads are ∙ ap (λ t. t ++ words) c.in_ok-text.ensures.text

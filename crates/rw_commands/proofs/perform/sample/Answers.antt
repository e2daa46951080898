use Rattle.rw_commands.proofs.Common.{ap, files_seen, option_map, policy_of, sym, ◌∙◌}
use Rattle.rw_commands.proofs.SampleText.{one_sample}
use Rattle.rw_commands.proofs.perform.sample.Goals as goal

pub returns : goal.returns
returns g c = λ extras.
    one_sample extras (files_seen c.args.files.now) (policy_of c.in-Some.policy) c.in-Some-inputs.inputs c.args.seed
    (ap (option_map policy_of) (sym c.take.ensures.value ∙ c.in-Some.is)) c.in-Some-inputs.is _
    (c.in_ok-text.ensures (policy_of c.in-Some.policy) c.in_ok-by.ensures.runs)

use Rattle.rw_commands.proofs.Common.{ap, files_seen, option_map, policy_of, sym, ◌∙◌}
use Rattle.rw_commands.proofs.BalanceText.{one_balance}
use Rattle.rw_commands.proofs.perform.balance.Goals as goal

pub returns : goal.returns
returns g c = λ extras.
    one_balance extras (files_seen c.args.files.now) (policy_of c.in-Some.policy) c.in-Some-inputs.inputs
    (ap (option_map policy_of) (sym c.take.ensures.value ∙ c.in-Some.is)) c.in-Some-inputs.is
    _ c.status_of_run.result _ c.status_of_run.ensures (c.in_ok-text.ensures (policy_of c.in-Some.policy) c.in_ok-by.ensures.runs)

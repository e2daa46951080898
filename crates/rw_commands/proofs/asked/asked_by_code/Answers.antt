use Rattle.rw_commands.proofs.Common.{None, [], refl, subst}
use Rattle.rw_inputs.specs.Placings.{placings}
use Rattle.rw_run.proofs.OneRun.{one_run}
use Rattle.rw_run.specs.Runs.{with_inputs}
use Rattle.rw_rules.specs.Rules.{policy_in}
use Rattle.rw_commands.proofs.AskedText.{asked_told, asks_plain, kept_lines}
use Rattle.rw_commands.proofs.RulesText.{untold}
use Rattle.rw_commands.specs.RunText.{IsVerifiedRun, policy_in_run}
use Rattle.rw_commands.proofs.asked.asked_by_code.Goals as goal

pub run_all_of-requires-clause-can : goal.run_all_of-requires-clause-can
run_all_of-requires-clause-can g c = record { fits = c.requires.fits; inputs = c.requires.inputs }

pub returns : goal.returns
returns g c = λ policy before means.
    let basin = c.args.setup.now.basin.now in
    let code = c.args.setup.now.policy.now in
    let inputs = c.args.inputs.now in
    let own = policy_in_run basin policy in
    let ct = c.in_ok-run.ensures.run in
    let comes = means.comes inputs c.in_ok-run.run' ct in
    let whole = means.runs inputs ct.log ct.whole in
    let same = one_run basin own (placings basin inputs) comes.log ct.log comes.whole whole in
    record {
      reran = None;
      run_text = record {
        log = ct.log;
        run = whole;
        end_is = ct.is.end;
        text_is =
            asked_told c.texts_of_runs.ensures.whole basin (policy_in basin code) own c.args.extras c.args.number ct.log c.in_ok-run.run' _
            c.requires.asked ct.is (means.asks inputs ct.log ct.whole)
            (c.in_ok-text.ensures ct.log ct.whole.events
            (c.choices.ensures.events basin (policy_in basin code) (with_inputs [] (placings basin inputs)) ct.whole.events ct.log ct.whole.leads)
            (kept_lines _ _ (c.in_ok-run.ensures.kept refl) ct.is.trace));
      };
      verified = subst (IsVerifiedRun basin policy) same comes.verified;
      rerun =
          untold basin own c.args.extras.reuse (record { before = before; inputs = inputs }) ct.log
          (asks_plain c.args.extras.asked c.args.extras.reuse c.requires.asked);
    }

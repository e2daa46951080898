use Rattle.rw_commands.proofs.Common.{Ok, [], ap, refl, subst, sym, ◌≡◌}
use Rattle.rw_inputs.specs.Placings.{placings}
use Rattle.rw_run.specs.Next.{no_rules}
use Rattle.rw_run.specs.Runs.{with_inputs}
use Rattle.rpl_verify.specs.Verified.{Accepted, verified}
use Rattle.rw_rules.specs.Rules.{policy_in}
use Rattle.rw_commands.proofs.AskedText.{asked_told, kept_lines}
use Rattle.rw_commands.proofs.RulesText.{none_alike}
use Rattle.rw_commands.proofs.asked.asked_of_oldest.Goals as goal

pub run_all_of-requires-clause-can : goal.run_all_of-requires-clause-can
run_all_of-requires-clause-can g c = record {
  fits = subst (λ (a : Accepted). verified c.args.setup.now.basin.now a.blocks ≡ Ok a) (sym c.requires.none) refl;
  inputs = c.requires.inputs;
}

pub text_of_run-requires-clause-fits : goal.text_of_run-requires-clause-fits
text_of_run-requires-clause-fits g c = subst (λ (a : Accepted). verified c.args.setup.now.basin.now a.blocks ≡ Ok a) (sym c.requires.none) refl

pub returns : goal.returns
returns g c =
    let basin = c.args.setup.now.basin.now in
    let code = policy_in basin c.args.setup.now.policy.now in
    let inputs = placings basin c.args.inputs.now in
    let ct = c.in_ok-run.ensures.run in
    let alike = none_alike basin c.args.setup.now.policy.now.blocks (ap (λ (a : Accepted). a.blocks) c.requires.none) in
    let leads = c.choices.ensures.events basin code (with_inputs [] inputs) ct.whole.events ct.log ct.whole.leads in
    record {
      log = ct.log;
      run = c.same_runs.ensures.alike basin code no_rules inputs ct.log alike ct.whole;
      end_is = ct.is.end;
      text_is =
          asked_told c.texts_of_runs.ensures.whole basin code no_rules c.args.extras 0 ct.log c.in_ok-run.run' _ c.requires.asked ct.is
          (c.same_asks.ensures basin code no_rules inputs ct.whole.events ct.log alike leads).1
          (c.in_ok-text.ensures ct.log ct.whole.events leads (kept_lines _ _ (c.in_ok-run.ensures.kept refl) ct.is.trace));
    }

use Rattle.rw_commands.proofs.Common.{Ok, [], ap, refl, subst, sym, ◌≡◌}
use Rattle.rw_inputs.specs.Placings.{placings}
use Rattle.rw_run.specs.Next.{no_rules}
use Rattle.rpl_verify.specs.Verified.{Accepted, verified}
use Rattle.rw_rules.specs.Rules.{policy_in}
use Rattle.rw_commands.proofs.AskedText.{asked_told, kept_lines}
use Rattle.rw_commands.proofs.RulesText.{alike_turned, none_alike}
use Rattle.rw_commands.proofs.asked.asked_of_newest.Goals as goal

pub text_of_run-requires-clause-fits : goal.text_of_run-requires-clause-fits
text_of_run-requires-clause-fits g c = subst (λ (a : Accepted). verified c.args.setup.now.basin.now a.blocks ≡ Ok a) (sym c.requires.none) refl

pub returns : goal.returns
returns g c =
    let basin = c.args.setup.now.basin.now in
    let code = policy_in basin c.args.setup.now.policy.now in
    let inputs = placings basin c.args.inputs.now in
    let comes = c.in_ok-run.ensures.run in
    let alike = none_alike basin c.args.setup.now.policy.now.blocks (ap (λ (a : Accepted). a.blocks) c.requires.none) in
    let both = c.same_asks.ensures basin no_rules code inputs comes.whole.events comes.log (alike_turned alike) comes.any in
    record {
      log = comes.log;
      run = comes.whole;
      end_is = comes.is.end;
      text_is =
          asked_told c.texts_of_runs.ensures.whole basin code no_rules c.args.extras 0 comes.log c.in_ok-run.run' _ c.requires.asked comes.is
          (sym both.1)
          (c.in_ok-text.ensures comes.log comes.whole.events both.0 (kept_lines _ _ (c.in_ok-run.ensures.told refl) comes.is.trace));
    }

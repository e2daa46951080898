use Rattle.rw_base.proofs.Common.{refl}
use Rattle.rw_inputs.specs.Placings.{placings}
use Rattle.rw_commands.proofs.RulesText.{by_code}
use Rattle.rw_commands.proofs.coded.code_runs.Goals as goal

pub returns : goal.returns
returns c = λ basin code fits.
    let accepted = c.answered_code_is_safe.ensures.accepted basin code.blocks code fits in
    record {
      comes = λ inputs run'.
          by_code basin code inputs run' accepted
          (λ log whole. c.firings_are_verified.ensures basin code.blocks code.budgets (placings basin inputs) log accepted whole);
      runs = λ inputs log whole. whole;
      asks = λ inputs log whole. refl;
    }

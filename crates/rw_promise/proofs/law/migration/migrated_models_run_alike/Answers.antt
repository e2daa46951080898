use Rattle.rw_base.proofs.Common.{IfOk, subst}
use Rattle.rw_model.specs.Basin.{IsBasin}
use Rattle.rw_inputs.specs.Placings.{placings}
use Rattle.rw_ahead.specs.Ahead.{ahead_to}
use Rattle.rw_promise.proofs.Accepting.{Laws, policy_stays, run_stays, within_30}
use Rattle.rw_promise.proofs.FarTexts.{balance_same, many_same, why_same}
use Rattle.rw_promise.proofs.law.migration.migrated_models_run_alike.Goals as goal

pub returns : goal.returns
returns c = λ old new policy_text inputs_text as_code basin policy inputs migrated read is reads.
    let more = within_30 basin (subst (λ found. IfOk found IsBasin) read (c.files_are_basins.ensures old)) in
    let laws : Laws basin = record {
      typed = λ rules types. c.rulesets_stay_accepted.ensures basin 30 rules types more;
      verifies = λ code policy. c.accepted_further.ensures basin 30 code policy more;
      by_rules = λ rules types inputs log. c.runs_of_rulesets.ensures basin 30 rules types inputs log more;
      by_code = λ code policy inputs log. c.runs_of_code.ensures basin 30 code policy inputs log more;
    } in
    record {
      other = ahead_to 30 basin;
      accepted = c.migrated_models_are_read.ensures old new basin migrated read;
      policy_is = policy_stays basin policy_text as_code policy laws is;
      inputs_are = c.inputs_read_alike.ensures basin 30 inputs_text inputs reads;
      alike = record {
        runs = λ given log. run_stays basin policy_text as_code policy (placings basin given) log laws is;
        texts = λ log number reran flags trace. c.sections_are_alike.ensures basin 30 number log reran flags trace;
        whys = why_same basin 30;
        books = balance_same basin 30;
        many = many_same basin 30;
      };
    }

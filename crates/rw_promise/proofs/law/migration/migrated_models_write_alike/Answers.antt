use Rattle.rw_commands.proofs.Common.{ap, false, if◌then◌else◌, sym, ◌∙◌}
use Rattle.rw_commands.specs.RunText.{asked_section_text, policy_in_run, section_text}
use Rattle.rw_promise.proofs.law.migration.migrated_models_write_alike.Goals as goal

pub returns : goal.returns
returns c = λ model policy_text inputs_text as_code basin policy inputs extras reran number end text goes plain is.
    let other = goes.other in
    let log = is.log in (
      other,
      goes.accepted,
      goes.policy_is,
      goes.inputs_are,
      record {
        log = log;
        run = goes.alike.runs inputs log is.run;
        end_is = is.end_is;
        text_is = is.text_is
            ∙ ap (λ t. if t then asked_section_text basin (policy_in_run basin policy) extras number reran log else section_text basin extras number reran log) plain
            ∙ sym (goes.alike.texts log number reran extras.flags extras.trace)
            ∙ sym (ap (λ t. if t then asked_section_text other (policy_in_run other policy) extras number reran log else section_text other extras number reran log) plain);
      },
    )

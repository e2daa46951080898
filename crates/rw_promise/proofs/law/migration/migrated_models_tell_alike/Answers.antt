use Rattle.rw_commands.proofs.Common.{sym, ◌∙◌}
use Rattle.rw_promise.proofs.law.migration.migrated_models_tell_alike.Goals as goal

pub returns-clause-why : goal.returns-clause-why
returns-clause-why c = λ model policy_text inputs_text as_code basin policy inputs cell end text goes is. (
  goes.other,
  goes.accepted,
  record {
    log = is.log;
    run = goes.alike.runs inputs is.log is.run;
    end_is = is.end_is;
    text_is = is.text_is ∙ sym (goes.alike.whys inputs cell is.log);
  },
)

pub returns-clause-balance : goal.returns-clause-balance
returns-clause-balance c = λ model policy_text inputs_text as_code basin policy inputs end text goes is. (
  goes.other,
  goes.accepted,
  record {
    log = is.log;
    run = goes.alike.runs inputs is.log is.run;
    end_is = is.end_is;
    text_is = is.text_is ∙ sym (goes.alike.books is.log);
  },
)

pub returns-clause-many : goal.returns-clause-many
returns-clause-many c = λ model policy_text inputs_text as_code basin policy inputs edited log logs goes run.
    (goes.other, goes.accepted, goes.alike.runs edited log run, goes.alike.many logs)

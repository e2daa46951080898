use Rattle.rw_promise.proofs.OneAnswer.{one_section, one_sections, one_why}
use Rattle.rw_promise.proofs.law.one_answer.Goals as goal

pub returns-clause-section : goal.returns-clause-section
returns-clause-section c = one_section c.one_run.ensures

pub returns-clause-sections : goal.returns-clause-sections
returns-clause-sections c = one_sections c.one_run.ensures

pub returns-clause-why : goal.returns-clause-why
returns-clause-why c = one_why c.one_run.ensures

use Rattle.rw_promise.proofs.Dues as due
use Rattle.rw_promise.proofs.law.dues.Goals as goal

pub returns-clause-model : goal.returns-clause-model
returns-clause-model c = due.of_model

pub returns-clause-rules : goal.returns-clause-rules
returns-clause-rules c = due.of_rules

pub returns-clause-code : goal.returns-clause-code
returns-clause-code c = due.of_code

pub returns-clause-inputs : goal.returns-clause-inputs
returns-clause-inputs c = due.of_inputs

pub returns-clause-edits : goal.returns-clause-edits
returns-clause-edits c = due.of_edits

pub returns-clause-long : goal.returns-clause-long
returns-clause-long c = due.of_long

pub returns-clause-none : goal.returns-clause-none
returns-clause-none c = due.of_none

pub returns-clause-cell : goal.returns-clause-cell
returns-clause-cell c = due.of_cell

pub returns-clause-scenarios : goal.returns-clause-scenarios
returns-clause-scenarios c = due.of_scenarios

use Rattle.rw_method.proofs.PowerRows.{outflow, request, too_much}
use Rattle.rw_method.proofs.power_law.high_dam_values.Goals as goal

pub returns-clause-outflow : goal.returns-clause-outflow
returns-clause-outflow c = outflow

pub returns-clause-request : goal.returns-clause-request
returns-clause-request c = request

pub returns-clause-too_much : goal.returns-clause-too_much
returns-clause-too_much c = too_much

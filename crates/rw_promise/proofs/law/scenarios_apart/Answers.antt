use Rattle.rw_promise.proofs.OneScenario.{in_place, one_scenario}
use Rattle.rw_promise.proofs.law.scenarios_apart.Goals as goal

pub returns-clause-one : goal.returns-clause-one
returns-clause-one c = λ basin policy inputs others batch log other same left right.
    one_scenario c.one_run.ensures basin policy inputs others same batch log other left right

pub returns-clause-each : goal.returns-clause-each
returns-clause-each c = in_place

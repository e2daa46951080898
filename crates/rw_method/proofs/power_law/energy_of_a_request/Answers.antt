use Rattle.rw_method.proofs.AskedEnergy.{gives_request}
use Rattle.rw_method.proofs.power_law.energy_of_a_request.Goals as goal

pub returns : goal.returns
returns c = gives_request

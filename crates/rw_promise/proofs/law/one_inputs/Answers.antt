use Rattle.rw_commands.proofs.OneReading.{same_values, refuses_clash}
use Rattle.rw_promise.proofs.law.one_inputs.Goals as goal

pub returns-clause-values : goal.returns-clause-values
returns-clause-values c = same_values

pub returns-clause-either : goal.returns-clause-either
returns-clause-either c = refuses_clash

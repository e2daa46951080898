use Rattle.rw_method.proofs.Idling.{idle_balanced}
use Rattle.rw_method.proofs.SolvedBalance.{solved_balanced}
use Rattle.rw_method.proofs.slot_law.slots_are_balanced.Goals as goal

pub returns-clause-puts : goal.returns-clause-puts
returns-clause-puts c = solved_balanced

pub returns-clause-idle : goal.returns-clause-idle
returns-clause-idle c = idle_balanced

use Rattle.rpl_tree.specs.Worked.{unknown_cells}
use Rattle.rpl_verify.specs.Worked.{one_dam}
use Rattle.rpl_verify.specs.Machine.{most_steps}
use Rattle.rpl_verify.proofs.Endless.{nothing_fired}
use Rattle.rpl_verify.proofs.law.endless_code.Goals as goal

pub returns-clause-nothing : goal.returns-clause-nothing
returns-clause-nothing c = nothing_fired (record { basin = one_dam; values = unknown_cells; step = 1 }) most_steps

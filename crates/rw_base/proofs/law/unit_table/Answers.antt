use Rattle.rw_base.specs.Unit.{units}
use Rattle.rw_base.proofs.Units.{unit_in_None}
use Rattle.rw_base.proofs.law.unit_table.Goals as goal

pub returns-clause-none : goal.returns-clause-none
returns-clause-none c = unit_in_None units

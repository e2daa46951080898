use Rattle.std.proofs.Common.{rules}
use Rattle.rw_base.specs.Unit.{units}
use Rattle.rw_base.proofs.Units.{unit_in-nowhere}
use Rattle.rw_base.proofs.unit.unit_of.Goals as goal

-- the arms before have each word of the table
pub returns-in_default-clause-unit : goal.returns-in_default-clause-unit
returns-in_default-clause-unit c = unit_in-nowhere units c.args.word.now (search rules)

use Rattle.rw_base.proofs.Common.{rules}
use Rattle.rw_model.proofs.kind.is_powered.Goals as goal
use Rattle.rw_model.proofs.kind.is_powered.Goals.{then-is_volume, else-is_volume}

pub returns-then-is_amount : goal.returns-then-is_amount
returns-then-is_amount c = elim c.if-is_volume.branch [ then-is_volume w ↦ search rules | else-is_volume w ↦ search rules ]

use Rattle.rw_base.proofs.Common.{All, subst, sym}
use Rattle.rw_inputs.specs.Edits.{IsBatch}
use Rattle.rw_inputs.proofs.Batches.{made_with}
use Rattle.rw_inputs.proofs.edits.take_fields.Goals as goal

pub returns-in-Ok-add-clause-made : goal.returns-in-Ok-add-clause-made
returns-in-Ok-add-clause-made c all =
    subst (All (IsBatch c.args.basin.now)) (sym c.in-Ok-add.ensures)
    (made_with c.args.basin.now c.args.batches.now.items c.in-Ok.batch c.in-Ok-read_edit.edit all c.in-Ok-read_edit.ensures.sound)

use Rattle.rw_base.proofs.Common.{◌≡◌, drop, list_any}
use Rattle.rw_inputs.specs.EditRows.{meets}
use Rattle.rw_inputs.proofs.batch.meets_one.Given as goal

abbrev pub invariant-loop-other : goal.invariant-loop-other
invariant-loop-other l = list_any (meets l.edit) (drop l.other-index l.edits) ≡ list_any (meets l.edit) l.edits

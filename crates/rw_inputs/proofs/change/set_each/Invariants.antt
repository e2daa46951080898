use Rattle.std.proofs.Common.{◌≡◌, drop}
use Rattle.rw_inputs.specs.Edits.{after_batch}
use Rattle.rw_inputs.specs.Inputs.{IsInputsOf, value_at}
use Rattle.rw_inputs.proofs.change.set_each.Given as goal

-- what is left to set comes to what the edits come to
abbrev pub invariant-loop-edit : goal.invariant-loop-edit
invariant-loop-edit l =
    IsInputsOf l.basin l.inputs
    × (after_batch (drop l.edit-index l.edits) (value_at l.inputs) ≡ after_batch l.edits (value_at l.fn.inputs))

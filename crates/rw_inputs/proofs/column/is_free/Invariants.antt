use Rattle.rw_inputs.specs.Column.{IsFree}
use Rattle.rw_inputs.proofs.column.is_free.Given as goal

-- nothing is kept at the timesteps so far
abbrev pub invariant-loop-before : goal.invariant-loop-before
invariant-loop-before l = IsFree l.values l.first l.before

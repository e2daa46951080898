use Rattle.rw_inputs.specs.Column.{IsSet}
use Rattle.rw_inputs.proofs.column.keep.Given as goal

-- that is kept at the timesteps so far
abbrev pub invariant-loop-before : goal.invariant-loop-before
invariant-loop-before l = IsSet l.kept l.first l.before l.fn.values l.values

use Rattle.rw_record.proofs.Common.{take, ◌≡◌}
use Rattle.rw_record.specs.Record.{greatest_step}
use Rattle.rw_record.proofs.kept_step.greatest_step.Given as goal

abbrev pub invariant-loop-place : goal.invariant-loop-place
invariant-loop-place l = l.greatest ≡ greatest_step (take l.place l.cells)

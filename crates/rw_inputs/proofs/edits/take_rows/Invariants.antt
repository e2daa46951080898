use Rattle.std.proofs.Common.{◌≡◌, ◌+◌, ◌≤◌, [], length}
use Rattle.std.specs.List.{All}
use Rattle.rw_inputs.specs.declared.limits.TheConstants.{BATCHES_MAX, EDITS_MAX}
use Rattle.rw_inputs.specs.EditRows.{more_batches}
use Rattle.rw_inputs.specs.Edits.{IsBatch}
use Rattle.rw_inputs.proofs.edits.take_rows.Given as goal

-- what is left to read comes to what all rows come to
abbrev pub invariant-loop-number : goal.invariant-loop-number
invariant-loop-number l =
    (more_batches l.basin l.number l.batches.items l.rows ≡ more_batches l.basin 2 [] l.fn.rows)
    × All (IsBatch l.basin) l.batches.items
    × (length l.batches.items ≤ BATCHES_MAX)
    × (l.number ≤ EDITS_MAX + 2)

use Rattle.std.proofs.Common.{◌≡◌, List, [], ◌++◌}
use Rattle.rw_inputs.specs.Records.{Fields}
use Rattle.rw_inputs.specs.Inputs.{Keeps}
use Rattle.rw_inputs.specs.Reading.{row_values, first_refusal}
use Rattle.rw_inputs.specs.LastSlot.{IsLastSlot}
use Rattle.rw_inputs.proofs.reading.take_rows.Given as goal

-- what the rows so far give is kept, and none of them is refused
abbrev pub invariant-loop-number : goal.invariant-loop-number
invariant-loop-number l =
    (before : List Fields) × (before ++ l.rows ≡ l.fn.rows) × Keeps l.basin (row_values l.basin before) l.inputs
    × (first_refusal l.basin l.number before l.rows ≡ first_refusal l.basin 2 [] l.fn.rows)
    × IsLastSlot l.basin l.last

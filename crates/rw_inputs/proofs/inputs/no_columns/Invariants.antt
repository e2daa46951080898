use Rattle.std.proofs.Common.{◌≡◌, ℕ, [], length}
use Rattle.rw_inputs.specs.Inputs.{slot_column}
use Rattle.rw_inputs.proofs.inputs.no_columns.Given as goal

abbrev pub invariant-loop : goal.invariant-loop
invariant-loop l = (length l.columns.items ≡ l.counter) × ((slot : ℕ) → slot_column l.columns.items slot ≡ [])

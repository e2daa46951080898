-- Small lists of cells, with what they hold.
use Rattle.std.specs.Prelude.{ℕ, ℤ, Some, None}
use Rattle.rw_run.specs.Dispatch.{cell_at}
use Rattle.rw_run.specs.Log.{Cells, input_content}
use Rattle.rw_run.specs.declared.held.Held.{Held}

-- each cell holds this
abbrev pub each_holds : ℤ → Cells
each_holds value cell = Some (input_content value)

-- no cell holds anything
abbrev pub none_holds : Cells
none_holds cell = None

-- what a slot held at a timestep
abbrev pub held_at : ℕ → ℕ → ℤ → Held
held_at slot step value = record { cell = cell_at slot step; content = Some (input_content value) }

-- that it held nothing
abbrev pub unknown_at : ℕ → ℕ → Held
unknown_at slot step = record { cell = cell_at slot step; content = None }

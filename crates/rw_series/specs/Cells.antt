-- What is kept of cells, side by side: timestep by timestep, and for each timestep slot by slot.
use Rattle.std.specs.Prelude.{ℕ, ◌+◌, ◌-◌, ◌*◌, nat_le, Bool, ◌&&◌, if◌then◌else◌, List, Option, None, slice_index_or}

-- there is such a slot and such a timestep
abbrev pub is_kept : ℕ → ℕ → ℕ → ℕ → Bool
is_kept slots steps slot step = (nat_le 1 slot && nat_le slot slots) && (nat_le 1 step && nat_le step steps)

-- the place of a cell, counted from 0
abbrev pub position_of : ℕ → ℕ → ℕ → ℕ
position_of slots slot step = (step - 1) * slots + (slot - 1)

-- what is kept of a slot at a timestep, which is nothing where there is no such cell
abbrev pub kept_at : {A : Type 0} → ℕ → ℕ → List (Option A) → ℕ → ℕ → Option A
kept_at slots steps cells slot step =
    if is_kept slots steps slot step then slice_index_or cells (position_of slots slot step) None else None

-- What is kept of a slot: a value or none for each timestep.
use Rattle.std.specs.Prelude.{◌≡◌, ◌≢◌, ◌⊎◌, ℕ, ◌+◌, ◌≤◌, nat_le, ℤ, pos, ◌-ℤ◌, int_le, ◌&&◌, if◌then◌else◌, List, [], length, Option, Some, None, slice_index_or}
use Rattle.rw_base.specs.Quantity.{quantity_max}

-- a place for each timestep. These count from 1, so nothing stands in the first place
abbrev pub Column : Type 0
Column = List (Option ℤ)

-- a quantity is kept as it is, and nothing as any number that is none
abbrev pub quantity_kept : ℤ → Option ℤ
quantity_kept number = if int_le (pos 0 -ℤ quantity_max) number && int_le number quantity_max then Some number else None

-- what is kept at a timestep
abbrev pub value_in_column : Column → ℕ → Option ℤ
value_in_column column step = slice_index_or column step None

-- a column of a run of so many timesteps: it has a place for each, or none at all
abbrev pub IsColumn : ℕ → Column → Type 0
IsColumn steps column = (column ≡ []) ⊎ (length column ≡ steps + 1)

-- timesteps from one to another, of so many in all
pub record IsSpanIn (steps from to : ℕ) : Type 0 where
  pub first : 1 ≤ from
  pub order : from ≤ to
  pub last : to ≤ steps

-- nothing is kept from one timestep to another
abbrev pub IsFree : Column → ℕ → ℕ → Type 0
IsFree column first last = (step : ℕ) → first ≤ step → step ≤ last → value_in_column column step ≡ None

-- something is kept there
pub record IsTakenWithin (column : Column) (first last : ℕ) : Type 0 where
  pub step : ℕ
  pub from : first ≤ step
  pub to : step ≤ last
  pub taken : value_in_column column step ≢ None

-- a value, or none, is kept from one timestep to another, and else what was kept before
abbrev pub IsSet : Option ℤ → ℕ → ℕ → Column → Column → Type 0
IsSet value first last old new =
    (step : ℕ) → value_in_column new step ≡ (if nat_le first step && nat_le step last then value else value_in_column old step)

-- the value is kept there
abbrev pub HasMore : ℤ → ℕ → ℕ → Column → Column → Type 0
HasMore value first last old new = IsSet (Some value) first last old new

-- nothing was kept there, and the value is now
pub record TakesValue (value : ℤ) (first last : ℕ) (old new : Column) : Type 0 where
  pub free : IsFree old first last
  pub more : HasMore value first last old new

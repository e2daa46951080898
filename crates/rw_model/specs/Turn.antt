-- When an object can be dispatched.
use Rattle.std.specs.Prelude.{◌≡◌, ◌==◌, ◌≤◌, ℕ, Bool, false, option_map, unwrap_or}
use Rattle.rw_model.specs.Code.{code_of}
use Rattle.rw_model.specs.Draft.{Draft, IsObject}
use Rattle.rw_model.specs.Objects.{object_at}

-- the object only keeps data, or isn't there
abbrev pub is_data : Draft → ℕ → Bool
is_data basin object = unwrap_or (option_map (λ found. code_of found.kind) (object_at basin.objects object)) 0 == 0

-- one of the timesteps
pub record IsStep (basin : Draft) (step : ℕ) : Type 0 where
  pub first : 1 ≤ step
  pub last : step ≤ basin.control.stamps.count

-- an object that has a method, and the timestep at which it is dispatched
pub record IsTurn (basin : Draft) (object step : ℕ) : Type 0 where
  pub known : IsObject basin.objects object
  pub solves : is_data basin object ≡ false
  pub at : IsStep basin step

-- The run of one reservoir: its storages, and the timestep at which one leaves its range.
use Rattle.std.specs.Prelude.{◌≡◌, ℕ, ◌+◌, ◌<◌, ℤ, pos, ◌+ℤ◌, ◌-ℤ◌, List, [], ◌∷◌, take, Option, MatchOption}
use Rattle.rw_model.specs.Kind.{IsAmount}

-- how much flowed, all together
abbrev pub total : List ℤ → ℤ
total [] = pos 0
total (flow ∷ flows) = flow +ℤ total flows

-- the storage after t timesteps: the initial one and the first t inflows, less the first t outflows
abbrev pub storage_at : ℤ → List ℤ → List ℤ → ℕ → ℤ
storage_at initial inflows outflows t = (initial +ℤ total (take t inflows)) -ℤ total (take t outflows)

-- The timesteps up to `closed` have their storages in range, 0 to Q. Either these are all, or the next one's storage is the
-- fault's value, out of range.
pub record IsReservoirRun (steps : ℕ) (initial : ℤ) (inflows outflows : List ℤ) (closed : ℕ) (fault : Option ℤ) : Type 0 where
  pub inside : (t : ℕ) → t < closed → IsAmount (storage_at initial inflows outflows (t + 1))
  pub ends : MatchOption fault (closed ≡ steps) (λ value. (closed < steps) × (value ≡ storage_at initial inflows outflows (closed + 1)) × ¬ IsAmount value)

-- What a log has of its timesteps once one more was passed.
use Rattle.std.specs.Prelude.{◌≡◌, ◌≢◌, ℕ, Some}
use Rattle.rw_run.specs.Log.{Log}
use Rattle.rw_run.specs.Step.{before_closing, before_opening, events_of}

-- the new log passed the timestep behind the old one, and of each other timestep it has what the old one had
pub record IsBehind (step : ℕ) (old new : Log) : Type 0 where
  pub opening : before_opening step new ≡ Some old
  pub openings : (other : ℕ) → step ≢ other → before_opening other new ≡ before_opening other old
  pub closings : (other : ℕ) → step ≢ other → before_closing other new ≡ before_closing other old
  pub events : (other : ℕ) → step ≢ other → events_of other new ≡ events_of other old

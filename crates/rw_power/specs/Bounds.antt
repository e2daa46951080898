-- Within the crate: how great the factors of an energy are, and a request that a release gives.
use Rattle.std.specs.Prelude.{ℤ, pos, ◌≡◌, ◌≤ℤ◌, Some, None}
use Rattle.rw_table.specs.declared.fault.TheConstants.{ELEVATION_MAX}
use Rattle.rw_model.specs.declared.content.Content.{Content}
use Rattle.rw_method.specs.declared.given.Given.{Given}
use Rattle.rw_method.specs.declared.view.View.{View}
use Rattle.rw_method.specs.Power.{Plant, requested}
use Rattle.rw_method.specs.Solve.{fault_of_request}

-- a fall from 0 to 10,000,000 mm
pub record IsFall (head : ℤ) : Type 0 where
  pub low : pos 0 ≤ℤ head
  pub high : head ≤ℤ ELEVATION_MAX

-- a fall at a power, which is up to 65,535 kWh for 10^9 m3 mm
pub record IsPoweredFall (product : ℤ) : Type 0 where
  pub low : pos 0 ≤ℤ product
  pub high : product ≤ℤ pos 655350000000

-- a release gives what is requested, and the outflow that it asks for is this
pub record HasRelease (plant : Plant) (view : View) (request : Content) (asked : Given) : Type 0 where
  pub fine : fault_of_request plant view (Some request) ≡ None
  pub is : asked ≡ requested plant view request

-- A power reservoir: the energy of a release, the release that a request asks for, and whether the request counts.
use Rattle.std.specs.Prelude.{ℕ, zero, suc, ◌<◌, nat_lt, ℤ, pos, ◌+ℤ◌, ◌-ℤ◌, ◌*ℤ◌, ◌≤ℤ◌, ◌<ℤ◌, int_le, unsigned_abs, if◌then◌else◌, Bool, List, Option, None, Some, is_some, unwrap_or, option_map, option_and_then}
use Rattle.std.specs.Int.{int_max}
use Rattle.std.specs.Ordering.{int_eq}
use Rattle.rw_base.specs.Quotient.{floor_div}
use Rattle.rw_table.specs.Table.{Row}
use Rattle.rw_table.specs.Curve.{elev_of}
use Rattle.rw_model.specs.declared.content.Content.{Content}
use Rattle.rw_method.specs.declared.given.Given.{Given}
use Rattle.rw_method.specs.declared.places.TheConstants.{ENERGY_REQUEST, OUTFLOW}
use Rattle.rw_method.specs.declared.view.View.{View}
use Rattle.rw_method.specs.View.{known, given}

-- the parameters by which it makes energy
pub record Plant : Type 0 where
  pub table : List Row
  pub max_release : ℤ
  pub tailwater : ℤ
  pub power : ℕ

abbrev pub plant : List Row → ℤ → ℤ → ℕ → Plant
plant table max_release tailwater power =
    record { table = table; max_release = max_release; tailwater = tailwater; power = power }

-- how far water falls, in mm: from the pool's elevation down to the tailwater's, and not at all from below it
abbrev pub head_from : ℤ → ℤ → ℤ
head_from elevation tailwater = int_max (elevation -ℤ tailwater) (pos 0)

-- the energy in kWh of a release in m3, by so many kWh for 10^9 m3 that fall by 1 mm
abbrev pub energy_of : ℕ → ℤ → ℤ → ℤ
energy_of power head release = floor_div (release *ℤ (head *ℤ pos power)) (pos 1000000000)

-- the release gives this energy, or more
abbrev pub is_enough : ℕ → ℤ → ℤ → ℕ → Bool
is_enough power head energy release = int_le energy (energy_of power head (pos release))

-- the first of so many whole numbers, from this one on, that is enough
abbrev pub first_enough : (ℕ → Bool) → ℕ → ℕ → Option ℕ
first_enough enough zero from = None
first_enough enough (suc more) from = if enough from then Some from else first_enough enough more (suc from)

-- the least release from 0 to the greatest one that gives an energy
abbrev pub least_release : ℕ → ℤ → ℤ → ℤ → Option ℕ
least_release power head max_release energy = first_enough (is_enough power head energy) (suc (unsigned_abs max_release)) 0

-- from 0 to the greatest one, it gives the energy, and no lesser one does
pub record IsLeastRelease (power : ℕ) (head max_release energy : ℤ) (release : ℕ) : Type 0 where
  pub inside : pos release ≤ℤ max_release
  pub enough : energy ≤ℤ energy_of power head (pos release)
  pub least : (other : ℕ) → other < release → energy_of power head (pos other) <ℤ energy

-- no release from 0 to the greatest one gives the energy
abbrev pub HasNoRelease : ℕ → ℤ → ℤ → ℤ → Type 0
HasNoRelease power head max_release energy =
    (other : ℕ) → pos other ≤ℤ max_release → energy_of power head (pos other) <ℤ energy

-- how far water falls from where the pool stood the timestep before. A storage that isn't known, or that the table doesn't have, counts as
-- no fall, since the answer is then Idle or OutOfRange
abbrev pub head_of : Plant → View → ℤ
head_of plant view =
    unwrap_or (option_map (λ elevation. head_from elevation plant.tailwater) (option_and_then (elev_of plant.table) view.past)) (pos 0)

-- a request counts beside an outflow that isn't given, or that is given with a lower priority
abbrev pub request_beside : Option Given → Content → Option Content
request_beside None request = Some request
request_beside (Some outflow) request = if nat_lt request.number outflow.number then Some request else None

-- the request for energy, where it counts: the storage before is known, too
abbrev pub request_of : View → Option Content
request_of view =
    if is_some view.past then option_and_then (request_beside (given view OUTFLOW)) (known view ENERGY_REQUEST) else None

-- the least release that gives what is requested
abbrev pub release_for : Plant → View → Content → Option ℕ
release_for plant view request = least_release plant.power (head_of plant view) plant.max_release request.value

-- what a request gives the outflow as. A request that no release gives counts as none released, since the answer is then OutOfRange
abbrev pub requested : Plant → View → Content → Given
requested plant view request =
    record { value = pos (unwrap_or (release_for plant view request) 0); number = request.number }

-- the outflow that is asked for, where a request counts
abbrev pub asked_of : Plant → View → Option Given
asked_of plant view = option_map (requested plant view) (request_of view)

-- what the outflow counts as given as: what is asked for, or else what is given
abbrev pub outflow_or : Option Given → Option Given → Option Given
outflow_or None held = held
outflow_or (Some asked) held = Some asked

abbrev pub outflow_of : Plant → View → Option Given
outflow_of plant view = outflow_or (asked_of plant view) (given view OUTFLOW)

-- ---- the least release by a quotient

-- of an energy above 0 and a fall above 0: one more than how often the fall at this power goes into a little less than what is asked for
abbrev pub release_quotient : ℕ → ℤ → ℤ → ℤ
release_quotient power head energy = floor_div (energy *ℤ pos 1000000000 -ℤ pos 1) (head *ℤ pos power) +ℤ pos 1

-- up to the greatest one
abbrev pub up_to : ℤ → ℤ → Option ℤ
up_to max_release release = if int_le release max_release then Some release else None

abbrev pub quotient_release : ℕ → ℤ → ℤ → ℤ → Option ℤ
quotient_release power head max_release energy =
    if int_le energy (pos 0) then Some (pos 0)
    else (if int_eq head (pos 0) then None else up_to max_release (release_quotient power head energy))

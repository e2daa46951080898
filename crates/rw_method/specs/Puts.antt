-- What is put once a balance is solved.
use Rattle.std.specs.Prelude.{ℕ, min, ◌==◌, if◌then◌else◌, ℤ, pos, ◌-ℤ◌, Bool, true, false, not, ◌&&◌, Contains, List, [], ◌∷◌, ◌++◌, Option, None, Some, unwrap_or, ◌+ℤ◌, Result, Ok, Err}
use Rattle.std.specs.Int.{int_min}
use Rattle.rw_table.specs.Table.{Row}
use Rattle.rw_model.specs.declared.content.Content.{Content}
use Rattle.rw_model.specs.declared.kind.Kind.{Kind}
use Rattle.rw_model.specs.declared.kind.Kind.TheVariants.{Reservoir, WaterUser, Canal, PowerReservoir, RoutedReach}
use Rattle.rw_model.specs.Slot.{all_quantities}
use Rattle.rw_method.specs.declared.basis.Basis.{Basis}
use Rattle.rw_method.specs.declared.basis.Basis.TheVariants.{Nothing, Storage, Elevation}
use Rattle.rw_method.specs.declared.given.Given.{Given}
use Rattle.rw_method.specs.declared.places.TheConstants.{DEPLETION, DIVERSION, ENERGY, EVAPORATION, INFLOW, OUTFLOW, POOL_ELEVATION, POWER_RELEASE, POWER_SPILL, RELEASE, RETURN_FLOW, SEEPAGE, SPILL, STORAGE, CONTENT}
use Rattle.rw_method.specs.declared.put.Put.{Put}
use Rattle.rw_method.specs.declared.solved.Solved.{Solved}
use Rattle.rw_method.specs.declared.solved.Solved.TheVariants.{Puts}
use Rattle.rw_method.specs.declared.balanced.Balanced.{Balanced}
use Rattle.rw_method.specs.declared.balanced.Balanced.TheVariants.{Holds, Solves}
use Rattle.rw_method.specs.declared.term.Term.{Term}
use Rattle.rw_method.specs.declared.view.View.{View}
use Rattle.rw_method.specs.View.{known, given, bounds_in_view, is_between}
use Rattle.rw_method.specs.Term.{per_mille}
use Rattle.rw_method.specs.Contents.{basis_of, elevation_of, volume_of, are_both_zero}
use Rattle.rw_method.specs.Power.{IsLeastRelease, Plant, plant, asked_of, energy_of, head_of}
use Rattle.rw_method.specs.Balance.{evaporation_of, power_balance, content_before}
use Rattle.rw_method.specs.Solving.{greatest_beside}

abbrev pub put : ℕ → ℤ → ℕ → Put
put place value number = record { place = place; value = value; number = number }

-- a put is a quantity within its slot's bounds
abbrev pub is_bounded : View → Put → Bool
is_bounded view put = is_between (bounds_in_view view put.place) put.value && is_between all_quantities put.value

-- a value and its priority, 0 and 0 where nothing is known
abbrev pub held_by : Option Content → Given
held_by None = record { value = pos 0; number = 0 }
held_by (Some content) = record { value = content.value; number = content.number }

-- the term that was solved
abbrev pub solved_put : Balanced → List Put
solved_put (Solves place value number) = put place value number ∷ []
solved_put balanced = []

-- what is answered of puts that were asked for: all of them, or what is answered in their place
abbrev pub puts_or_answer : {X : Type 0} → List Put → Result X Solved → Solved
puts_or_answer puts (Ok asked) = Puts puts
puts_or_answer puts (Err answer) = answer

-- what a place holds after these puts: what one of them puts there, or what is known
abbrev pub held_after_puts : View → List Put → ℕ → Given
held_after_puts view [] place = held_by (known view place)
held_after_puts view (put ∷ puts) place =
    if put.place == place then record { value = put.value; number = put.number } else held_after_puts view puts place

-- what a place holds once the balance is solved: what was just solved, or what is known
abbrev pub known_after : View → Balanced → ℕ → Given
known_after view balanced place = held_after_puts view (solved_put balanced) place

-- the slot in a place gets the value that the table has, if it has one
abbrev pub put_found : ℕ → Option ℤ → ℕ → List Put
put_found place None number = []
put_found place (Some value) number = put place value number ∷ []

-- beside the slot that gives the contents, the other of storage and elevation
abbrev pub beside_basis : Option (List Row) → Basis → List Put
beside_basis table Nothing = []
beside_basis table (Storage storage) = put_found POOL_ELEVATION (elevation_of table storage.value) storage.number
beside_basis table (Elevation elevation) = put_found STORAGE (volume_of table elevation.value) elevation.number

-- beside the slot that gives the contents the other one, unless both are given with priority 0
abbrev pub beside_given : Option (List Row) → Option Given → Option Given → List Put
beside_given table storage elevation =
    if are_both_zero storage elevation then [] else beside_basis table (basis_of storage elevation)

-- the elevation of a solved storage, or what stands beside given contents
abbrev pub level_puts : Option (List Row) → Option Given → Option Given → Balanced → List Put
level_puts table storage elevation (Solves place value number) =
    if place == STORAGE then put_found POOL_ELEVATION (elevation_of table value) number else beside_given table storage elevation
level_puts table storage elevation balanced = beside_given table storage elevation

-- how much evaporates, with priority 0
abbrev pub evaporation_put : Bool → Option ℤ → List Put
evaporation_put evaporation amount = if evaporation then put EVAPORATION (unwrap_or amount (pos 0)) 0 ∷ [] else []

-- of an outflow the release, up to the greatest one, and the spill above it, each in its place
abbrev pub released_puts : ℕ → ℕ → ℤ → Given → List Put
released_puts release spill most outflow =
    put release (int_min outflow.value most) outflow.number ∷
    put spill (outflow.value -ℤ int_min outflow.value most) outflow.number ∷
    []

-- where there is a greatest release
abbrev pub release_puts : Option ℤ → Given → List Put
release_puts None outflow = []
release_puts (Some most) outflow = released_puts RELEASE SPILL most outflow

-- what a reservoir puts of its contents: what was solved, and the other of storage and elevation
abbrev pub contents_puts : Option (List Row) → View → Balanced → List Put
contents_puts table view balanced = solved_put balanced ++ level_puts table (given view STORAGE) (given view POOL_ELEVATION) balanced

-- all that a reservoir puts, of what evaporates and of its greatest release
abbrev pub reservoir_puts : Option (List Row) → Bool → Option ℤ → Option ℤ → View → Balanced → List Put
reservoir_puts table evaporation amount max_release view balanced =
    contents_puts table view balanced ++ evaporation_put evaporation amount ++ release_puts max_release (known_after view balanced OUTFLOW)

-- of a diversion what is used up, and what flows back
abbrev pub user_puts : ℕ → Given → List Put
user_puts depletion diversion =
    put DEPLETION (per_mille diversion.value depletion) diversion.number ∷
    put RETURN_FLOW (diversion.value -ℤ per_mille diversion.value depletion) diversion.number ∷
    []

-- all that a water user puts
abbrev pub water_user_puts : ℕ → View → Balanced → List Put
water_user_puts depletion view balanced = solved_put balanced ++ user_puts depletion (known_after view balanced DIVERSION)

-- what seeps away between inflow and outflow
abbrev pub seepage_put : Given → Given → List Put
seepage_put inflow outflow = put SEEPAGE (inflow.value -ℤ outflow.value) inflow.number ∷ []

-- all that a canal puts
abbrev pub canal_puts : View → Balanced → List Put
canal_puts view balanced = solved_put balanced ++ seepage_put (known_after view balanced INFLOW) (known_after view balanced OUTFLOW)

-- the number with which the outflow is put that a request asks for: the request's, but where the balance is true anyway no greater one than
-- the other terms have
abbrev pub asked_number : List Term → Balanced → ℕ → ℕ
asked_number terms Holds number = min number (greatest_beside OUTFLOW terms)
asked_number terms balanced number = number

-- the outflow that a request asks for
abbrev pub asked_put : List Term → Balanced → Given → Put
asked_put terms balanced asked = put OUTFLOW asked.value (asked_number terms balanced asked.number)

-- a flow that was solved and the outflow that a request asks for, in order of place: the former alone where that is the outflow
abbrev pub beside_flow : Put → Put → List Put
beside_flow asked solved =
    if solved.place == OUTFLOW then solved ∷ [] else (if solved.place == INFLOW then solved ∷ asked ∷ [] else asked ∷ solved ∷ [])

-- what was solved, and beside it the outflow that a request asks for, unless the outflow itself was solved
abbrev pub flow_puts : Option Given → List Term → Balanced → List Put
flow_puts None terms balanced = solved_put balanced
flow_puts (Some asked) terms (Solves place value number) =
    beside_flow (asked_put terms (Solves place value number) asked) (put place value number)
flow_puts (Some asked) terms balanced = asked_put terms balanced asked ∷ []

-- the energy of what is released of an outflow, the release, and the spill
abbrev pub energy_puts : Plant → ℤ → Given → List Put
energy_puts plant head outflow =
    put ENERGY (energy_of plant.power head (int_min outflow.value plant.max_release)) outflow.number
    ∷ released_puts POWER_RELEASE POWER_SPILL plant.max_release outflow

-- the flows that a power reservoir puts, and all its puts
abbrev pub power_flows : Plant → View → Balanced → List Put
power_flows plant view balanced = flow_puts (asked_of plant view) (power_balance plant view).terms balanced

abbrev pub power_puts : Plant → View → Balanced → List Put
power_puts plant view balanced =
    power_flows plant view balanced
    ++ level_puts (Some plant.table) (given view STORAGE) (given view POOL_ELEVATION) balanced
    ++ energy_puts plant (head_of plant view) (held_after_puts view (power_flows plant view balanced) OUTFLOW)

-- what is left of what was held and what flows in, once the outflow is let go
abbrev pub content_put : ℤ → Given → Given → List Put
content_put content inflow outflow = put CONTENT (content +ℤ inflow.value -ℤ outflow.value) outflow.number ∷ []

-- all that the object puts, in order of place: what was solved, and what is derived from it
abbrev pub puts_of : Kind → View → Balanced → List Put
puts_of (Reservoir initial_storage table local_inflow diversion return_flow evaporation max_release) view balanced =
    reservoir_puts table evaporation (evaporation_of evaporation table view) max_release view balanced
puts_of (WaterUser depletion supply) view balanced = water_user_puts depletion view balanced
puts_of (Canal seepage) view balanced = canal_puts view balanced
puts_of (PowerReservoir initial_storage table max_release tailwater power) view balanced =
    power_puts (plant table max_release tailwater power) view balanced
puts_of (RoutedReach initial_content release) view balanced =
    solved_put balanced ++ content_put (content_before view) (known_after view balanced INFLOW) (known_after view balanced OUTFLOW)
puts_of kind view balanced = solved_put balanced

-- ---- a request for energy

-- where the balance is solved, and not by the outflow, a request that counts puts it
abbrev pub is_put_by_request : Balanced → Bool
is_put_by_request Holds = true
is_put_by_request (Solves place value number) = not (place == OUTFLOW)
is_put_by_request balanced = false

-- the outflow is put as the least release that gives what is requested, and the energy as what that release gives
pub record GivesRequest (plant : Plant) (view : View) (request : Content) (puts : List Put) : Type 0 where
  pub release : ℕ
  pub number : ℕ
  pub least : IsLeastRelease plant.power (head_of plant view) plant.max_release request.value release
  pub outflow : Contains puts (put OUTFLOW (pos release) number)
  pub energy : Contains puts (put ENERGY (energy_of plant.power (head_of plant view) (pos release)) number)

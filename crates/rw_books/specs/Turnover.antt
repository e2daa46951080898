-- What a timestep brings to the book of water of an object that holds water.
use Rattle.std.specs.Prelude.{ℕ, ◌+◌, ℤ, pos, ◌-ℤ◌, ◌≤ℤ◌, Bool, Option, None, Some, option_map, if◌then◌else◌}
use Rattle.rw_model.specs.declared.content.Content.{Content}
use Rattle.rw_model.specs.declared.kind.Kind.{Kind}
use Rattle.rw_model.specs.declared.kind.Kind.TheVariants.{Reservoir, PowerReservoir, RoutedReach}
use Rattle.rw_model.specs.Draft.{Draft}
use Rattle.rw_method.specs.declared.places.TheConstants.{CONTENT, EVAPORATION, EVAPORATION_RATE, INFLOW, OUTFLOW, RESERVOIR_SIDE, STORAGE}
use Rattle.rw_method.specs.Balance.{known_sum}
use Rattle.rw_run.specs.Dispatch.{content_in}
use Rattle.rw_run.specs.Log.{Cells}
use Rattle.rw_books.specs.declared.turnover.Turnover.{Turnover}

-- the values of an object's slots at a timestep, by their places
abbrev pub values_at : Draft → Cells → (object step place : ℕ) → Option ℤ
values_at basin cells object step place = option_map (λ (content : Content). content.value) (content_in basin cells object step place)

-- where all three are known
abbrev pub turnover : (inflow outflow held : Option ℤ) → Option Turnover
turnover None outflow held = None
turnover (Some inflow) None held = None
turnover (Some inflow) (Some outflow) None = None
turnover (Some inflow) (Some outflow) (Some held) = Some (record { inflow = inflow; outflow = outflow; held = held })

-- a turnover, where a value is known too
abbrev pub turnover_beside : Option ℤ → Option Turnover → Option Turnover
turnover_beside None turn = None
turnover_beside (Some value) turn = turn

-- what flows by a slot, and 0 where that isn't chosen
abbrev pub if_chosen : Bool → Option ℤ → Option ℤ
if_chosen choice value = if choice then value else Some (pos 0)

-- of a reservoir, by the values of its slots, by their places: Inflow, LocalInflow and ReturnFlow flow in, Outflow, Diversion and
-- Evaporation flow out, each where it is chosen; the rate of evaporation has to be known as well
abbrev pub reservoir_turnover : (local_inflow diversion return_flow evaporation : Bool) → (ℕ → Option ℤ) → Option Turnover
reservoir_turnover local_inflow diversion return_flow evaporation values =
    turnover_beside (if_chosen evaporation (values EVAPORATION_RATE)) (turnover
    (known_sum (known_sum (values INFLOW) (if_chosen local_inflow (values RESERVOIR_SIDE))) (if_chosen return_flow (values (RESERVOIR_SIDE + 2))))
    (known_sum (known_sum (values OUTFLOW) (if_chosen diversion (values (RESERVOIR_SIDE + 1)))) (if_chosen evaporation (values EVAPORATION)))
    (values STORAGE))

-- of an object of a kind
abbrev pub turnover_of : Kind → (ℕ → Option ℤ) → Option Turnover
turnover_of (Reservoir initial_storage table local_inflow diversion return_flow evaporation max_release) values =
    reservoir_turnover local_inflow diversion return_flow evaporation values
turnover_of (PowerReservoir initial_storage table max_release tailwater power) values = turnover (values INFLOW) (values OUTFLOW) (values STORAGE)
turnover_of (RoutedReach initial_content release) values = turnover (values INFLOW) (values OUTFLOW) (values CONTENT)
turnover_of kind values = None

-- what an object of the kind held before the run, if it is one that holds water
abbrev pub initial_of : Kind → Option ℤ
initial_of (Reservoir initial_storage table local_inflow diversion return_flow evaporation max_release) = Some initial_storage
initial_of (PowerReservoir initial_storage table max_release tailwater power) = Some initial_storage
initial_of (RoutedReach initial_content release) = Some initial_content
initial_of kind = None

-- ---- how large it is

-- a number from minus this one to this one
pub record IsNoLarger (most : ℕ) (z : ℤ) : Type 0 where
  pub low : (pos 0 -ℤ pos most) ≤ℤ z
  pub high : z ≤ℤ pos most

-- three flows in and three out at most
pub record IsOfThreeFlows (turn : Turnover) : Type 0 where
  pub inflow : IsNoLarger 300000000000000000 turn.inflow
  pub outflow : IsNoLarger 300000000000000000 turn.outflow

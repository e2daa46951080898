-- What an object's slots hold where its terms are known: the balance, and what is derived.
use Rattle.std.specs.Prelude.{◌≡◌, ◌⊎◌, ℕ, zero, suc, ℤ, ◌+ℤ◌, ◌-ℤ◌, Bool, true, List, Option, Some, None, IsSome}
use Rattle.std.specs.Int.{int_min}
use Rattle.rw_table.specs.Table.{Row}
use Rattle.rw_table.specs.Curve.{elev_of, vol_of}
use Rattle.rw_model.specs.declared.kind.Kind.{Kind}
use Rattle.rw_model.specs.declared.kind.Kind.TheVariants.{DataObject, Gage, Confluence, Bifurcation, Reach, Reservoir, WaterUser, Canal, PowerReservoir, RoutedReach}
use Rattle.rw_model.specs.declared.kind.Supply.TheVariants.{Request, Rule}
use Rattle.rw_method.specs.declared.places.TheConstants.{DEPLETION, DIVERSION, DIVERSION_REQUEST, ENERGY, EVAPORATION, EVAPORATION_RATE, INFLOW, INFLOW_1, INFLOW_2, JOINED_OUTFLOW, OUTFLOW, OUTFLOW_1, OUTFLOW_2, POOL_ELEVATION, POWER_RELEASE, POWER_SPILL, REACH_SIDE, RELEASE, RESERVOIR_SIDE, RETURN_FLOW, SEEPAGE, SPILL, STORAGE, CONTENT}
use Rattle.rw_method.specs.declared.view.View.{View}
use Rattle.rw_method.specs.Balance.{evaporation_of, side_flows}
use Rattle.rw_method.specs.Contents.{evaporated}
use Rattle.rw_method.specs.Power.{Plant, plant, energy_of, head_from}
use Rattle.rw_method.specs.Term.{per_mille}
use Rattle.rw_method.specs.View.{known_value}

-- the slot in a place holds this value
abbrev pub IsHeld : View → ℕ → ℤ → Type 0
IsHeld view place value = known_value view place ≡ Some value

-- of a diversion as much is used up as the share says, and the rest flows back
pub record IsUsed (depletion : ℕ) (view : View) (diversion : ℤ) : Type 0 where
  pub used : IsHeld view DEPLETION (per_mille diversion depletion)
  pub back : IsHeld view RETURN_FLOW (diversion -ℤ per_mille diversion depletion)

-- where there is a table, there is an elevation, which is the storage's, or the storage is the elevation's
abbrev pub IsLevel : Option (List Row) → View → ℤ → Type 0
IsLevel None view storage = Unit {0}
IsLevel (Some rows) view storage =
    (elevation : ℤ) × ((IsHeld view POOL_ELEVATION elevation) × ((elev_of rows storage ≡ Some elevation) ⊎ (vol_of rows elevation ≡ Some storage)))

-- so much is held as evaporated; the storage before has an elevation, and where the table gives what evaporates of it at the rate, it is that
pub record IsEvaporated (rows : List Row) (view : View) (past evaporates : ℤ) : Type 0 where
  pub held : IsHeld view EVAPORATION evaporates
  pub elevation : IsSome (elev_of rows past)
  pub amount : (rate amount : ℤ) → IsHeld view EVAPORATION_RATE rate → evaporated rows past rate ≡ Some amount → evaporates ≡ amount

-- where evaporation is chosen, for which there has to be a table
abbrev pub IsLost : Bool → Option (List Row) → View → ℤ → ℤ → Type 0
IsLost true (Some rows) view past evaporates = IsEvaporated rows view past evaporates
IsLost evaporation table view past evaporates = Unit {0}

-- the outflow is released up to the greatest release, and the rest spilled, each in its place
abbrev pub IsReleasedAt : ℕ → ℕ → ℤ → View → ℤ → Type 0
IsReleasedAt release spill most view outflow =
    IsHeld view release (int_min outflow most) × IsHeld view spill (outflow -ℤ int_min outflow most)

-- where there is a greatest release
abbrev pub IsReleased : Option ℤ → View → ℤ → Type 0
IsReleased None view outflow = Unit {0}
IsReleased (Some most) view outflow = IsReleasedAt RELEASE SPILL most view outflow

-- a reservoir's slots, where these are what is held
pub record IsReservoirBalanced (table : Option (List Row)) (evaporation : Bool) (max_release : Option ℤ) (view : View) (past inflow outflow storage side evaporates : ℤ) : Type 0 where
  -- Storage = Storage(t - 1) + Inflow + LocalInflow + ReturnFlow - Diversion - Evaporation - Outflow
  pub balance : storage ≡ past +ℤ inflow +ℤ side -ℤ evaporates -ℤ outflow
  pub level : IsLevel table view storage
  pub evaporated : IsLost evaporation table view past evaporates
  pub released : IsReleased max_release view outflow

-- a power reservoir's slots, where these are what is held
pub record IsPowerBalanced (plant : Plant) (view : View) (past inflow outflow storage : ℤ) : Type 0 where
  -- Storage = Storage(t - 1) + Inflow - Outflow
  pub balance : storage ≡ past +ℤ inflow -ℤ outflow
  pub level : IsLevel (Some plant.table) view storage
  -- where the pool stood the timestep before
  pub stood : ℤ
  pub elevation : elev_of plant.table past ≡ Some stood
  pub energy : IsHeld view ENERGY (energy_of plant.power (head_from stood plant.tailwater) (int_min outflow plant.max_release))
  pub released : IsReleasedAt POWER_RELEASE POWER_SPILL plant.max_release view outflow

-- where the solvable and fixed terms and the past value are known, with the storage in place of the contents, the balance is true, and each
-- slot that is derived holds what is derived
abbrev pub IsBalanced : Kind → View → Type 0
IsBalanced (DataObject slots) view = Unit {0}
-- GageOutflow = GageInflow
IsBalanced Gage view = (inflow outflow : ℤ) → IsHeld view INFLOW inflow → IsHeld view OUTFLOW outflow → outflow ≡ inflow
-- Outflow = Inflow1 + Inflow2
IsBalanced Confluence view =
    (one two outflow : ℤ) → IsHeld view INFLOW_1 one → IsHeld view INFLOW_2 two → IsHeld view JOINED_OUTFLOW outflow → outflow ≡ one +ℤ two
-- Inflow = Outflow1 + Outflow2
IsBalanced Bifurcation view =
    (inflow one two : ℤ) → IsHeld view INFLOW inflow → IsHeld view OUTFLOW_1 one → IsHeld view OUTFLOW_2 two → inflow ≡ one +ℤ two
-- Outflow = Inflow + LocalInflow - Diversion + ReturnFlow
IsBalanced (Reach zero history local_inflow diversion return_flow) view =
    (inflow outflow side : ℤ) → IsHeld view INFLOW inflow → IsHeld view OUTFLOW outflow → side_flows view REACH_SIDE local_inflow diversion return_flow ≡ Some side
    → outflow ≡ inflow +ℤ side
-- Outflow = Inflow(t - lag) + LocalInflow - Diversion + ReturnFlow
IsBalanced (Reach (suc lag) history local_inflow diversion return_flow) view =
    (past outflow side : ℤ) → view.past ≡ Some past → IsHeld view OUTFLOW outflow → side_flows view REACH_SIDE local_inflow diversion return_flow ≡ Some side
    → outflow ≡ past +ℤ side
IsBalanced (Reservoir initial_storage table local_inflow diversion return_flow evaporation max_release) view =
    (past inflow outflow storage side evaporates : ℤ) → view.past ≡ Some past → IsHeld view INFLOW inflow → IsHeld view OUTFLOW outflow → IsHeld view STORAGE storage
    → side_flows view RESERVOIR_SIDE local_inflow diversion return_flow ≡ Some side → evaporation_of evaporation table view ≡ Some evaporates
    → IsReservoirBalanced table evaporation max_release view past inflow outflow storage side evaporates
-- Diversion = DiversionRequest
IsBalanced (WaterUser depletion Request) view =
    (request diversion : ℤ) → IsHeld view DIVERSION_REQUEST request → IsHeld view DIVERSION diversion → (diversion ≡ request) × IsUsed depletion view diversion
-- no balance
IsBalanced (WaterUser depletion Rule) view = (diversion : ℤ) → IsHeld view DIVERSION diversion → IsUsed depletion view diversion
-- Outflow = Inflow - floor(Inflow * seepage / 1000)
IsBalanced (Canal seepage) view =
    (inflow outflow : ℤ) → IsHeld view INFLOW inflow → IsHeld view OUTFLOW outflow
    → (outflow ≡ inflow -ℤ per_mille inflow seepage) × IsHeld view SEEPAGE (inflow -ℤ outflow)
IsBalanced (PowerReservoir initial_storage table max_release tailwater power) view =
    (past inflow outflow storage : ℤ) → view.past ≡ Some past → IsHeld view INFLOW inflow → IsHeld view OUTFLOW outflow → IsHeld view STORAGE storage
    → IsPowerBalanced (plant table max_release tailwater power) view past inflow outflow storage
-- Outflow = floor((Content(t - 1) + Inflow) * release / 1000), and Content = Content(t - 1) + Inflow - Outflow
IsBalanced (RoutedReach initial_content release) view =
    (past inflow outflow : ℤ) → view.past ≡ Some past → IsHeld view INFLOW inflow → IsHeld view OUTFLOW outflow
    → (outflow ≡ per_mille (past +ℤ inflow) release) × IsHeld view CONTENT (past +ℤ inflow -ℤ outflow)

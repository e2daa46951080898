-- The balance of each kind: what can be solved for, and what else flows.
use Rattle.std.specs.Prelude.{ℕ, zero, suc, ◌+◌, if◌then◌else◌, ℤ, pos, ◌+ℤ◌, Bool, List, [], ◌∷◌, Option, None, Some, unwrap_or, option_map, option_and_then}
use Rattle.rw_table.specs.Table.{Row}
use Rattle.rw_model.specs.declared.kind.Kind.{Kind}
use Rattle.rw_model.specs.declared.kind.Kind.TheVariants.{DataObject, Gage, Confluence, Bifurcation, Reach, Reservoir, WaterUser, Canal, PowerReservoir, RoutedReach}
use Rattle.rw_model.specs.declared.kind.Supply.TheVariants.{Request, Rule}
use Rattle.rw_method.specs.declared.given.Given.{Given}
use Rattle.rw_method.specs.declared.places.TheConstants.{DIVERSION, DIVERSION_REQUEST, EVAPORATION_RATE, INFLOW, INFLOW_1, INFLOW_2, JOINED_OUTFLOW, OUTFLOW, OUTFLOW_1, OUTFLOW_2, POOL_ELEVATION, REACH_SIDE, RESERVOIR_SIDE, STORAGE}
use Rattle.rw_method.specs.declared.share.Share.{Share}
use Rattle.rw_method.specs.declared.share.Share.TheVariants.{Brings, Takes, Conveys, Routes}
use Rattle.rw_method.specs.declared.term.Term.{Term}
use Rattle.rw_method.specs.declared.view.View.{View}
use Rattle.rw_method.specs.View.{known_value, given}
use Rattle.rw_method.specs.Contents.{basis_of, contents_by, evaporated, difference}
use Rattle.rw_method.specs.Power.{Plant, plant, outflow_of}

-- what else is brought than by the terms, where all of it is known, and the terms that can be solved for, in order
pub record Balance : Type 0 where
  pub steady : Option ℤ
  pub terms : List Term

abbrev pub balance : Option ℤ → List Term → Balance
balance steady terms = record { steady = steady; terms = terms }

-- the sum of two values, where both are there
abbrev pub known_sum : Option ℤ → Option ℤ → Option ℤ
known_sum (Some a) (Some b) = Some (a +ℤ b)
known_sum (Some a) None = None
known_sum None b = None

-- the slot in a place as a term that counts so
abbrev pub term_at : View → Share → ℕ → Term
term_at view share place = record { place = place; share = share; given = given view place }

abbrev pub brings : View → ℕ → Term
brings view place = term_at view Brings place

abbrev pub takes : View → ℕ → Term
takes view place = term_at view Takes place

abbrev pub conveys : View → ℕ → ℕ → Term
conveys view seepage place = term_at view (Conveys seepage) place

-- what a routed reach held a timestep ago. Where that isn't known it counts as empty, since the answer is then Idle
abbrev pub content_before : View → ℤ
content_before view = unwrap_or view.past (pos 0)

abbrev pub routes : View → ℕ → ℕ → Term
routes view release place = term_at view (Routes (content_before view) release) place

-- the contents as a term, which takes water and is put as the storage
abbrev pub stores : Option Given → Term
stores contents = record { place = STORAGE; share = Takes; given = contents }

-- the outflow as a term, which takes water
abbrev pub lets_out : Option Given → Term
lets_out outflow = record { place = OUTFLOW; share = Takes; given = outflow }

-- the value in a place, and 0 where that slot isn't chosen
abbrev pub value_if_chosen : Bool → View → ℕ → Option ℤ
value_if_chosen choice view place = if choice then known_value view place else Some (pos 0)

-- LocalInflow + ReturnFlow - Diversion, which stand in places one after the other as LocalInflow, Diversion, ReturnFlow
abbrev pub side_flows : View → ℕ → Bool → Bool → Bool → Option ℤ
side_flows view place local_inflow diversion return_flow =
    difference (known_sum (value_if_chosen local_inflow view place) (value_if_chosen return_flow view (place + 2))) (value_if_chosen diversion view (place + 1))

-- Evaporation, known where the rate and the storage before are. A storage that the table doesn't have counts as none evaporated,
-- since the answer is then OutOfRange
abbrev pub evaporation_from : List Row → Option ℤ → Option ℤ → Option ℤ
evaporation_from rows past rate =
    option_and_then (λ storage. option_map (λ mm. unwrap_or (evaporated rows storage mm) (pos 0)) rate) past

-- Evaporation, which is 0 where it isn't chosen
abbrev pub evaporation_of : Bool → Option (List Row) → View → Option ℤ
evaporation_of evaporation None view = Some (pos 0)
evaporation_of evaporation (Some rows) view =
    if evaporation then evaporation_from rows view.past (known_value view EVAPORATION_RATE) else Some (pos 0)

-- Contents = Storage(t - 1) + Inflow - Outflow
abbrev pub power_balance : Plant → View → Balance
power_balance plant view =
    balance view.past
    (brings view INFLOW ∷ lets_out (outflow_of plant view)
    ∷ stores (contents_by (Some plant.table) (basis_of (given view STORAGE) (given view POOL_ELEVATION))) ∷ [])

abbrev pub balance_of : Kind → View → Balance
-- a data object has none
balance_of (DataObject slots) view = balance (Some (pos 0)) []
-- GageOutflow = GageInflow
balance_of Gage view = balance (Some (pos 0)) (brings view INFLOW ∷ takes view OUTFLOW ∷ [])
-- Outflow = Inflow1 + Inflow2
balance_of Confluence view = balance (Some (pos 0)) (brings view INFLOW_1 ∷ brings view INFLOW_2 ∷ takes view JOINED_OUTFLOW ∷ [])
-- Inflow = Outflow1 + Outflow2
balance_of Bifurcation view = balance (Some (pos 0)) (brings view INFLOW ∷ takes view OUTFLOW_1 ∷ takes view OUTFLOW_2 ∷ [])
-- Outflow = Inflow + LocalInflow - Diversion + ReturnFlow
balance_of (Reach zero history local_inflow diversion return_flow) view =
    balance (side_flows view REACH_SIDE local_inflow diversion return_flow) (brings view INFLOW ∷ takes view OUTFLOW ∷ [])
-- Outflow = Inflow(t - lag) + LocalInflow - Diversion + ReturnFlow
balance_of (Reach (suc lag) history local_inflow diversion return_flow) view =
    balance (known_sum view.past (side_flows view REACH_SIDE local_inflow diversion return_flow)) (takes view OUTFLOW ∷ [])
-- Contents = Storage(t - 1) + Inflow + LocalInflow + ReturnFlow - Diversion - Evaporation - Outflow
balance_of (Reservoir initial_storage table local_inflow diversion return_flow evaporation max_release) view =
    balance (difference (known_sum view.past (side_flows view RESERVOIR_SIDE local_inflow diversion return_flow)) (evaporation_of evaporation table view))
    (brings view INFLOW ∷ takes view OUTFLOW ∷ stores (contents_by table (basis_of (given view STORAGE) (given view POOL_ELEVATION))) ∷ [])
-- Diversion = DiversionRequest
balance_of (WaterUser depletion Request) view = balance (known_value view DIVERSION_REQUEST) (takes view DIVERSION ∷ [])
-- none, yet Diversion has to be known
balance_of (WaterUser depletion Rule) view = balance (known_value view DIVERSION) []
-- Outflow = Inflow - floor(Inflow * seepage / 1000)
balance_of (Canal seepage) view = balance (Some (pos 0)) (conveys view seepage INFLOW ∷ takes view OUTFLOW ∷ [])
balance_of (PowerReservoir initial_storage table max_release tailwater power) view =
    power_balance (plant table max_release tailwater power) view
-- Outflow = floor((Content(t - 1) + Inflow) * release / 1000)
balance_of (RoutedReach initial_content release) view =
    balance (option_map (λ content. pos 0) view.past) (routes view release INFLOW ∷ takes view OUTFLOW ∷ [])

-- The table of slots: which slots an object of a kind has, in order of place.
use Rattle.std.specs.Prelude.{ℕ, ◌==◌, if◌then◌else◌, Bool, ◌&&◌, List, [], ◌∷◌, map, Option, Some, None, is_some, slice_index_or, codes}
use Rattle.rw_base.specs.Unit.{volume, length, energy}
use Rattle.rw_model.specs.declared.data_slots.DataSlot.{DataSlot}
use Rattle.rw_model.specs.declared.kind.Kind.{Kind}
use Rattle.rw_model.specs.declared.kind.Kind.TheVariants.{DataObject, Gage, Confluence, Bifurcation, Reach, Reservoir, WaterUser, Canal, PowerReservoir, RoutedReach}
use Rattle.rw_model.specs.declared.kind.Supply.TheVariants.{Request, Rule}
use Rattle.rw_model.specs.declared.role.Role.TheVariants.{Solvable, Fixed, Derived, Neither}
use Rattle.rw_model.specs.Slot.{Slot, flow, of_range, all_quantities, from_zero, lengths, rate_unit}

-- a slot that is there only where it is chosen
abbrev pub where_chosen : Bool → Slot → Option Slot
where_chosen chosen slot = if chosen then Some slot else None

-- each place of the kind, counted from 0, with its slot, if it has one
abbrev pub slots_of : Kind → List (Option Slot)
slots_of (DataObject slots) = map (λ (slot : DataSlot). Some (of_range slot.name slot.dim Neither all_quantities)) slots
slots_of Gage =
    Some (flow (codes "GageInflow") Solvable) ∷
    Some (flow (codes "GageOutflow") Solvable) ∷
    []
slots_of Confluence =
    Some (flow (codes "Inflow1") Solvable) ∷
    Some (flow (codes "Inflow2") Solvable) ∷
    Some (flow (codes "Outflow") Solvable) ∷
    []
slots_of Bifurcation =
    Some (flow (codes "Inflow") Solvable) ∷
    Some (flow (codes "Outflow1") Solvable) ∷
    Some (flow (codes "Outflow2") Solvable) ∷
    []
slots_of (Reach lag history local_inflow diversion return_flow) =
    Some (flow (codes "Inflow") (if lag == 0 then Solvable else Neither)) ∷
    Some (flow (codes "Outflow") Solvable) ∷
    where_chosen local_inflow (flow (codes "LocalInflow") Fixed) ∷
    where_chosen diversion (flow (codes "Diversion") Fixed) ∷
    where_chosen return_flow (flow (codes "ReturnFlow") Fixed) ∷
    []
slots_of (Reservoir initial_storage table local_inflow diversion return_flow evaporation max_release) =
    Some (flow (codes "Inflow") Solvable) ∷
    Some (flow (codes "Outflow") Solvable) ∷
    Some (of_range (codes "Storage") volume Neither from_zero) ∷
    where_chosen (is_some table) (of_range (codes "PoolElevation") length Neither lengths) ∷
    where_chosen local_inflow (flow (codes "LocalInflow") Fixed) ∷
    where_chosen diversion (flow (codes "Diversion") Fixed) ∷
    where_chosen return_flow (flow (codes "ReturnFlow") Fixed) ∷
    where_chosen evaporation (of_range (codes "EvaporationRate") rate_unit Fixed lengths) ∷
    where_chosen (evaporation && is_some table) (flow (codes "Evaporation") Derived) ∷
    where_chosen (is_some max_release) (flow (codes "Release") Derived) ∷
    where_chosen (is_some max_release) (flow (codes "Spill") Derived) ∷
    []
slots_of (WaterUser depletion Request) =
    Some (flow (codes "DiversionRequest") Fixed) ∷
    Some (flow (codes "Diversion") Solvable) ∷
    Some (flow (codes "Depletion") Derived) ∷
    Some (flow (codes "ReturnFlow") Derived) ∷
    []
slots_of (WaterUser depletion Rule) =
    Some (flow (codes "DiversionRequest") Neither) ∷
    Some (flow (codes "Diversion") Fixed) ∷
    Some (flow (codes "Depletion") Derived) ∷
    Some (flow (codes "ReturnFlow") Derived) ∷
    []
slots_of (Canal seepage) =
    Some (flow (codes "Inflow") Solvable) ∷
    Some (flow (codes "Outflow") Solvable) ∷
    Some (flow (codes "Seepage") Derived) ∷
    []
slots_of (PowerReservoir initial_storage table max_release tailwater power) =
    Some (flow (codes "Inflow") Solvable) ∷
    Some (flow (codes "Outflow") Solvable) ∷
    Some (of_range (codes "Storage") volume Neither from_zero) ∷
    Some (of_range (codes "PoolElevation") length Neither lengths) ∷
    Some (of_range (codes "EnergyRequest") energy Neither from_zero) ∷
    Some (of_range (codes "Energy") energy Derived from_zero) ∷
    Some (flow (codes "Release") Derived) ∷
    Some (flow (codes "Spill") Derived) ∷
    []
slots_of (RoutedReach initial_content release) =
    Some (flow (codes "Inflow") Solvable) ∷
    Some (flow (codes "Outflow") Solvable) ∷
    Some (of_range (codes "Content") volume Derived from_zero) ∷
    []

-- the kind's slot in a place, if it has one there
abbrev pub slot_in : Kind → ℕ → Option Slot
slot_in kind place = slice_index_or (slots_of kind) place None

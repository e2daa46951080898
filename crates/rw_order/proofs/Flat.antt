-- Which slots measure no flow: of objects with a method that are free, levels alone.
use Rattle.rw_order.proofs.Common.{Bifurcation, Bool, ByRule, Canal, Confluence, DataObject, Derived, Dimension, Fixed, Gage, Kind, List, None}
use Rattle.rw_order.proofs.Common.{Option, PowerReservoir, Reach, Request, Reservoir, RoutedReach, Row, Slot, Some, WaterUser, [], ap₂, arith}
use Rattle.rw_order.proofs.Common.{both_ways, code_of, codes, false, flow, int_eq, is_some, lengths, nat_tests, none-some, of_range, pos, rate_unit}
use Rattle.rw_order.proofs.Common.{refl, same_Some, slice_index_or, slot_in, slots_of, subst, suc, true, where_chosen, zero, ℕ, ℤ, ◌&&◌, ◌==◌, ◌||◌}
use Rattle.rw_order.proofs.Common.{◌∷◌, ◌≡◌}
use Rattle.rw_order.specs.Free.{has_level_in, is_free}

abbrev pub is_flat : Dimension → Bool
is_flat dim = int_eq dim.step (pos 0)

abbrev NoneFlat : List (Option Slot) → Type 0
NoneFlat [] = Unit {0}
NoneFlat (None ∷ slots) = NoneFlat slots
NoneFlat (Some slot ∷ slots) = (is_flat slot.dim ≡ false) × NoneFlat slots

chosen_flat : (chosen_one : Bool) (slot : Slot) (rest : List (Option Slot)) → is_flat slot.dim ≡ false → NoneFlat rest
    → NoneFlat (where_chosen chosen_one slot ∷ rest)
chosen_flat true slot rest is none = (is, none)
chosen_flat false slot rest is none = none

flat_at : (slots : List (Option Slot)) (place : ℕ) (slot : Slot) → NoneFlat slots → slice_index_or slots place None ≡ Some slot
    → is_flat slot.dim ≡ false
flat_at [] place slot none is = absurd (none-some _ is)
flat_at (None ∷ slots) zero slot none is = absurd (none-some _ is)
flat_at (None ∷ slots) (suc place) slot none is = flat_at slots place slot none is
flat_at (Some first ∷ slots) zero slot none is = subst (λ (s : Slot). is_flat s.dim ≡ false) (same_Some _ _ is) none.0
flat_at (Some first ∷ slots) (suc place) slot none is = flat_at slots place slot none.1 is

no_flat : (slots : List (Option Slot)) (place : ℕ) (slot : Slot) (P : Type 0) → NoneFlat slots → slice_index_or slots place None ≡ Some slot
    → is_flat slot.dim ≡ true → P
no_flat slots place slot P none is flat = absurd (both_ways (is_flat slot.dim) (flat_at slots place slot none is) flat)

-- the places of a reservoir behind those of its contents
abbrev behind_contents : Option (List Row) → Bool → Bool → Bool → Bool → Option ℤ → List (Option Slot)
behind_contents table local_inflow diversion return_flow evaporation max_release =
    where_chosen local_inflow (flow (codes "LocalInflow") Fixed) ∷
    where_chosen diversion (flow (codes "Diversion") Fixed) ∷
    where_chosen return_flow (flow (codes "ReturnFlow") Fixed) ∷
    where_chosen evaporation (of_range (codes "EvaporationRate") rate_unit Fixed lengths) ∷
    where_chosen (evaporation && is_some table) (flow (codes "Evaporation") Derived) ∷
    where_chosen (is_some max_release) (flow (codes "Release") Derived) ∷
    where_chosen (is_some max_release) (flow (codes "Spill") Derived) ∷
    []

-- a slot of a method's object that is free, if it measures no flow, is a level
pub level_of : (kind : Kind) (place : ℕ) (slot : Slot) → is_free kind ≡ true → (code_of kind == 0) ≡ false → slot_in kind place ≡ Some slot
    → is_flat slot.dim ≡ true → has_level_in place kind ≡ true
level_of (DataObject slots) place slot free ready is flat = absurd (both_ways true ready refl)
level_of Gage place slot free ready is flat = no_flat (slots_of Gage) place slot _ (refl, (refl, tt)) is flat
level_of Confluence place slot free ready is flat = no_flat (slots_of Confluence) place slot _ (refl, (refl, (refl, tt))) is flat
level_of Bifurcation place slot free ready is flat = no_flat (slots_of Bifurcation) place slot _ (refl, (refl, (refl, tt))) is flat
level_of (Reach lag history local_inflow diversion return_flow) place slot free ready is flat =
    no_flat (slots_of (Reach lag history local_inflow diversion return_flow)) place slot _
    (refl, (refl, chosen_flat local_inflow _ _ refl (chosen_flat diversion _ _ refl (chosen_flat return_flow _ _ refl tt)))) is flat
level_of (WaterUser depletion Request) place slot free ready is flat =
    no_flat (slots_of (WaterUser depletion Request)) place slot _ (refl, (refl, (refl, (refl, tt)))) is flat
level_of (WaterUser depletion ByRule) place slot free ready is flat =
    no_flat (slots_of (WaterUser depletion ByRule)) place slot _ (refl, (refl, (refl, (refl, tt)))) is flat
level_of (Canal seepage) place slot free ready is flat = no_flat (slots_of (Canal seepage)) place slot _ (refl, (refl, (refl, tt))) is flat
level_of (Reservoir initial_storage table local_inflow diversion return_flow evaporation max_release) zero slot free ready is flat =
    absurd (both_ways (is_flat slot.dim) (subst (λ (s : Slot). is_flat s.dim ≡ false) (same_Some _ _ is) refl) flat)
level_of (Reservoir initial_storage table local_inflow diversion return_flow evaporation max_release) (suc zero) slot free ready is flat =
    absurd (both_ways (is_flat slot.dim) (subst (λ (s : Slot). is_flat s.dim ≡ false) (same_Some _ _ is) refl) flat)
level_of (Reservoir initial_storage table local_inflow diversion return_flow evaporation max_release) (suc (suc zero)) slot free ready is flat = refl
level_of (Reservoir initial_storage table local_inflow diversion return_flow evaporation max_release) (suc (suc (suc zero))) slot free ready is
    flat = refl
level_of (Reservoir initial_storage table local_inflow diversion return_flow evaporation max_release) (suc (suc (suc (suc place)))) slot free
    ready is flat =
    no_flat (behind_contents table local_inflow diversion return_flow evaporation max_release) place slot _
    (chosen_flat local_inflow _ _ refl (chosen_flat diversion _ _ refl (chosen_flat return_flow _ _ refl (chosen_flat evaporation _ _ refl
    (chosen_flat (evaporation && is_some table) _ _ refl
    (chosen_flat (is_some max_release) _ _ refl (chosen_flat (is_some max_release) _ _ refl tt)))))))
    is flat
level_of (PowerReservoir initial_storage table max_release tailwater power) place slot free ready is flat = absurd (both_ways false refl free)
level_of (RoutedReach initial_content release) place slot free ready is flat = absurd (both_ways false refl free)

pub level_flat : (kind : Kind) (place : ℕ) (slot : Slot) → has_level_in place kind ≡ true → slot_in kind place ≡ Some slot → is_flat slot.dim ≡ true
level_flat (Reservoir initial_storage table local_inflow diversion return_flow evaporation max_release) (suc (suc zero)) slot level is =
    subst (λ (s : Slot). is_flat s.dim ≡ true) (same_Some _ _ is) refl
level_flat (Reservoir initial_storage None local_inflow diversion return_flow evaporation max_release) (suc (suc (suc zero))) slot level is =
    absurd (none-some _ is)
level_flat (Reservoir initial_storage (Some rows) local_inflow diversion return_flow evaporation max_release) (suc (suc (suc zero))) slot level is =
    subst (λ (s : Slot). is_flat s.dim ≡ true) (same_Some _ _ is) refl
level_flat (Reservoir initial_storage table local_inflow diversion return_flow evaporation max_release) zero slot level is =
    absurd (both_ways false refl level)
level_flat (Reservoir initial_storage table local_inflow diversion return_flow evaporation max_release) (suc zero) slot level is =
    absurd (both_ways false refl level)
level_flat (Reservoir initial_storage table local_inflow diversion return_flow evaporation max_release) (suc (suc (suc (suc place)))) slot level is =
    let two : (suc (suc (suc (suc place))) == 2) ≡ false = grind (arith, nat_tests) in
    let three : (suc (suc (suc (suc place))) == 3) ≡ false = grind (arith, nat_tests) in
    absurd (both_ways (suc (suc (suc (suc place))) == 2 || suc (suc (suc (suc place))) == 3) (ap₂ (λ a b. a || b) two three) level)
level_flat kind place slot level is = absurd (both_ways false refl level)

-- What an object sees is a view of its kind.
use Rattle.rw_dispatch.proofs.Common.{AreBounded, Content, IsBounded, IsViewOf, Kind, List, None, Option, Some, View, [], and_parts, ap, arith}
use Rattle.rw_dispatch.proofs.Common.{bounds_in_view, eqb-true, false, get_or-map-range_with_len, known, known_value, length, map}
use Rattle.rw_dispatch.proofs.Common.{nat_tests, option_and_then, option_map, pos, refl, slice_index_or, subst, suc, sym, take, true}
use Rattle.rw_dispatch.proofs.Common.{unwrap_or, zero, ℕ, ℤ, ◌&&◌, ◌+◌, ◌-◌, ◌<◌, ◌==◌, ◌∙◌, ◌∷◌, ◌≡◌, ◌≤ℤ◌, ◌≤◌}
use Rattle.rw_model.proofs.Common.{place_of, IsKind, Slot, Bounds, IsInside, slots_of, slot_in, Object, Placed, placed_from, slots_from, all_slots}
use Rattle.rw_model.proofs.Common.{object_at, slot_at, slot_in_place, first_from, is_in_place, Draft, IsObject, IsBetween, bounds_in, IsBasin}
use Rattle.rw_model.proofs.Common.{numbered-known, StandsAt-stored, first_from-all_slots, IsOfOwner-is_in_place, known_in_place, bounds_in-within}
use Rattle.rw_run.proofs.Common.{Cells, cell_at, content_in, bounds_in_place, past_value, places, view_of}
use Rattle.rw_model.proofs.Owned.{found_at}
use Rattle.std.proofs.lemmas.List.{get_or_past}
use Rattle.rw_model.specs.declared.kind.Kind.TheVariants.{DataObject, PowerReservoir, Reservoir, WaterUser}
use Rattle.rw_model.specs.declared.kind.Supply.TheVariants.{Request, Rule}
use Rattle.rw_dispatch.specs.Seeing.{has_late}

-- ---- an object's slot in a place is its kind's

of_kind : (found : Option Object) (kind : Kind) (place : ℕ) → option_map (λ (object : Object). object.kind) found ≡ Some kind
    → option_and_then (λ (object : Object). slot_in object.kind place) found ≡ slot_in kind place
of_kind None kind place is = absurd (cc)
of_kind (Some object) kind place is = let same : object.kind ≡ kind = cc in ap (λ k. slot_in k place) same

-- the slot of this number is the kind's in the place
pub record StandsIn (objects : List Object) (kind : Kind) (place number : ℕ) : Type 0 where
  pub placed : Placed
  pub found : slot_at objects number ≡ Some placed
  pub slot : slot_in kind place ≡ Some placed.slot

pub stands_in : (objects : List Object) (owner place number : ℕ) (kind : Kind)
    → option_map (λ (object : Object). object.kind) (object_at objects owner) ≡ Some kind
    → slot_in_place objects owner place ≡ Some number → StandsIn objects kind place number
stands_in objects owner place number kind is at =
    let found = found_at 1 number (is_in_place owner place) (all_slots objects) at in
    let same = and_parts (found.placed.owner == owner) (found.placed.place == place) found.passes in
    let stands = StandsAt-stored objects (number - 1) (place_of found.placed) (ap (option_map place_of) found.found) in
    record {
      placed = found.placed;
      found = numbered-known (all_slots objects) number found.after ∙ found.found;
      slot = sym (of_kind (object_at objects owner) kind place is)
          ∙ ap (λ p. option_and_then (λ (object : Object). slot_in object.kind p) (object_at objects owner)) (sym (eqb-true _ _ same.1))
          ∙ ap (λ o. option_and_then (λ (object : Object). slot_in object.kind found.placed.place) (object_at objects o)) (sym (eqb-true _ _ same.0))
          ∙ stands.slot
          ∙ ap (option_map (λ (placed : Placed). placed.slot)) found.found;
    }

has_place : (owner start n j at : ℕ) (slots : List (Option Slot)) (slot : Slot) → at ≡ start + j → slice_index_or slots j None ≡ Some slot
    → (k : ℕ) × (first_from n (is_in_place owner at) (placed_from owner start slots) ≡ Some k)
has_place owner start n j at [] slot place found = absurd (cc)
has_place owner start n zero at (None ∷ slots) slot place found = absurd (cc)
has_place owner start n zero at (Some first ∷ slots) slot place found =
    let here : (owner == owner && start == at) ≡ true = grind (arith, nat_tests) in (n, rw here refl)
has_place owner start n (suc j) at (None ∷ slots) slot place found = has_place owner (start + 1) n j at slots slot (omega (arith, place)) found
has_place owner start n (suc j) at (Some first ∷ slots) slot place found =
    let later = has_place owner (start + 1) (n + 1) j at slots slot (omega (arith, place)) found in
    let there : (owner == owner && start == at) ≡ false = grind (arith, nat_tests) in (later.0, rw there later.1)

-- an object has the slots of its kind
pub has_slot : (objects : List Object) (owner place : ℕ) (kind : Kind) (slot : Slot) → 1 ≤ owner
    → option_map (λ (object : Object). object.kind) (object_at objects owner) ≡ Some kind
    → slot_in kind place ≡ Some slot → (number : ℕ) × (slot_in_place objects owner place ≡ Some number)
has_slot objects owner place kind slot first is found =
    let before = length (slots_from 1 (take (owner - 1) objects)) in
    let at : place ≡ 0 + place = omega arith in
    let own = has_place owner 0 (before + 1) place place (slots_of kind) slot at found in
    (own.0, sym (first_from-all_slots objects owner kind (is_in_place owner place) before first (IsOfOwner-is_in_place owner place) is refl) ∙ own.1)

no_slot : (objects : List Object) (owner place : ℕ) (kind : Kind) (found : Option ℕ)
    → option_map (λ (object : Object). object.kind) (object_at objects owner) ≡ Some kind
    → slot_in kind place ≡ None → slot_in_place objects owner place ≡ found → slot_in_place objects owner place ≡ None
no_slot objects owner place kind None is none found = found
no_slot objects owner place kind (Some number) is none found = let stands = stands_in objects owner place number kind is found in let slot =
    stands.slot in absurd (cc)

-- most kinds have few places
few_slots : (kind : Kind) → has_late kind ≡ false → length (slots_of kind) ≤ 5
few_slots (DataObject slots) few = absurd (cc)
few_slots (Reservoir initial_storage table local_inflow diversion return_flow evaporation max_release) few = absurd (cc)
few_slots (PowerReservoir initial_storage table max_release tailwater power) few = absurd (cc)
few_slots (WaterUser depletion Request) few = omega arith
few_slots (WaterUser depletion Rule) few = omega arith
few_slots kind few = omega arith

-- and so have the objects
pub late_none : (objects : List Object) (owner : ℕ) (kind : Kind) (place : ℕ)
    → option_map (λ (object : Object). object.kind) (object_at objects owner) ≡ Some kind → has_late kind ≡ false → 5 ≤ place
    → slot_in_place objects owner place ≡ None
late_none objects owner kind place is few far =
    let many = few_slots kind few in
    no_slot objects owner place kind (slot_in_place objects owner place) is (get_or_past (slots_of kind) place None (omega (arith, many, far))) refl

-- ---- the view

pub known-view : (basin : Draft) (cells : Cells) (object step place : ℕ) → place < 12
    → known (view_of basin cells object step) place ≡ content_in basin cells object step place
known-view basin cells object step place near =
    let at : 0 + place ≡ place = omega arith in
    get_or-map-range_with_len (content_in basin cells object step) 0 12 place place None near at

pub bounds_at-view : (basin : Draft) (cells : Cells) (object step place : ℕ) → place < 12
    → bounds_in_view (view_of basin cells object step) place ≡ bounds_in_place basin object place
bounds_at-view basin cells object step place near =
    let at : 0 + place ≡ place = omega arith in
    get_or-map-range_with_len (bounds_in_place basin object) 0 12 place place (pos 0, pos 0) near at

value_bounded : (held : Option Content) (bounds : Bounds) → ((content : Content) → held ≡ Some content → IsBetween bounds content.value)
    → (z : ℤ) → option_map (λ (content : Content). content.value) held ≡ Some z → (bounds.0 ≤ℤ z) × (z ≤ℤ bounds.1)
value_bounded None bounds between z found = absurd (cc)
value_bounded (Some content) bounds between z found =
    let same : content.value ≡ z = cc in
    let is = between content refl in
    subst (λ y. (bounds.0 ≤ℤ y) × (y ≤ℤ bounds.1)) same (is.low, is.high)

bounded_by : (seen bounds : Bounds) (slot : Slot) (seen_value value : Option ℤ) → seen ≡ bounds → seen_value ≡ value → IsInside bounds slot.widest
    → ((z : ℤ) → value ≡ Some z → (bounds.0 ≤ℤ z) × (z ≤ℤ bounds.1)) → IsBounded seen slot seen_value
bounded_by seen bounds slot seen_value value same same_value inside between =
    rw (same, same_value) (record { low = inside.low; high = inside.high; inside = between })

pub bounds-slot : (basin : Draft) (object place number : ℕ) → slot_in_place basin.objects object place ≡ Some number
    → bounds_in_place basin object place ≡ bounds_in basin.objects basin.links basin.bounds number
bounds-slot basin object place number found =
    ap (λ slot. unwrap_or (option_map (bounds_in basin.objects basin.links basin.bounds) slot) (pos 0, pos 0)) found

pub content-slot : (basin : Draft) (cells : Cells) (object step place : ℕ) (found : Option ℕ) → slot_in_place basin.objects object place ≡ found
    → content_in basin cells object step place ≡ option_and_then cells (option_map (λ slot. cell_at slot step) found)
content-slot basin cells object step place found is = ap (λ slot. option_and_then cells (option_map (λ s. cell_at s step) slot)) is

pub IsViewOf-view : (basin : Draft) (cells : Cells) (object step : ℕ) (kind : Kind) → IsBasin basin → IsObject basin.objects object
    → option_map (λ (found : Object). found.kind) (object_at basin.objects object) ≡ Some kind → IsKind kind → 1 ≤ step
    → step ≤ basin.control.stamps.count
    → AreBounded basin cells → IsViewOf kind (view_of basin cells object step)
IsViewOf-view basin cells object step kind valid own is sound first last bounded = record {
  parameters = sound;
  absent = λ place near none.
      known-view basin cells object step place near
      ∙ content-slot basin cells object step place None
      (no_slot basin.objects object place kind (slot_in_place basin.objects object place) is none refl);
  bounded = λ place slot near found.
      let at = has_slot basin.objects object place kind slot own.first is found in
      let stands = stands_in basin.objects object place at.0 kind is at.1 in
      let same : stands.placed.slot ≡ slot = let there = stands.slot in cc in
      let known_slot = known_in_place basin.objects object place at.0 at.1 in
      let bounds = bounds_in basin.objects basin.links basin.bounds at.0 in
      bounded_by (bounds_in_view (view_of basin cells object step) place) bounds slot (known_value (view_of basin cells object step) place)
      (option_map (λ (content : Content). content.value) (cells (cell_at at.0 step)))
      (bounds_at-view basin cells object step place near ∙ bounds-slot basin object place at.0 at.1)
      (ap (option_map (λ (content : Content). content.value))
      (known-view basin cells object step place near ∙ content-slot basin cells object step place (Some at.0) at.1))
      (subst (λ (s : Slot). IsInside bounds s.widest) same (bounds_in-within basin at.0 valid known_slot stands.placed stands.found))
      (value_bounded (cells (cell_at at.0 step)) bounds
      (λ content held. bounded (cell_at at.0 step) content (record { slot = known_slot; first = first; last = last }) held));
}

-- ---- a view that is filled place by place

pub filled-view : (basin : Draft) (cells : Cells) (object step : ℕ) (view : View) → view.own.0 ≡ object
    → view.now ≡ map (content_in basin cells object step) places
    → view.past ≡ past_value basin cells object step → view.bounds ≡ map (bounds_in_place basin object) places
    → view ≡ view_of basin cells object step
filled-view basin cells object step view own now past bounds =
    ap (λ o. record view { own = record { 0 = o } }) own
    ∙ ap (λ z. record view { own = record { 0 = object }; now = z }) now
    ∙ ap (λ z. record view { own = record { 0 = object }; now = map (content_in basin cells object step) places; past = z }) past
    ∙ ap (λ z. record view {
      own = record { 0 = object };
      now = map (content_in basin cells object step) places;
      past = past_value basin cells object step;
      bounds = z;
    }) bounds

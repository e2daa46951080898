-- What bounds leave each slot, and that what the readers answer is in range.
use Rattle.rw_base.proofs.Common.{◌≡◌, ℕ, suc, ◌+◌, ◌*◌, ◌-◌, ◌<◌, ◌≤◌, ◌==◌, List, [], ◌∷◌, length, Bool, true, false, Option, Some, None}
use Rattle.rw_base.proofs.Common.{refl, sym, ap, subst, ◌∙◌, arith, is_some, ◌&&◌, option_and_then, slice_index_or, All, ℤ, ◌≤ℤ◌, slice_get}
use Rattle.rw_base.proofs.Common.{option_map, unwrap_or, codes, if◌then◌else◌, list_any, range_with_len, ForSome, int_max, int_min, ints, by_lt_z}
use Rattle.rw_base.proofs.Common.{fold-int_max_bounds, fold-int_min_bounds, get_or-map-range_with_len, length-map-range_with_len}
use Rattle.rw_base.proofs.Common.{get_or-range_with_len, length-range_with_len, list_any_at, list_any-append, All-nil, All-cons, All-head, All-tail}
use Rattle.rw_base.proofs.Common.{All-append, slice_get_within, get_or_from_slice_get}
use Rattle.rw_base.specs.Dimension.{Dimension}
use Rattle.rw_base.specs.Unit.{volume, length as length-unit, energy}
use Rattle.rw_base.proofs.Lists.{got_within}
use Rattle.rw_model.specs.declared.data_slots.DataSlot.{DataSlot}
use Rattle.rw_model.specs.declared.kind.Kind.{Kind}
use Rattle.rw_model.specs.declared.kind.Kind.TheVariants.{DataObject, Gage, Confluence, Bifurcation, Reach, Reservoir, WaterUser, Canal}
use Rattle.rw_model.specs.declared.kind.Kind.TheVariants.{PowerReservoir, RoutedReach}
use Rattle.rw_model.specs.declared.kind.Supply.TheVariants.{Request, Rule}
use Rattle.rw_model.specs.declared.role.Role.{Role}
use Rattle.rw_model.specs.declared.role.Role.TheVariants.{Fixed, Derived, Neither}
use Rattle.rw_model.specs.Slot.{Slot, Bounds, IsInside, flow, of_range, all_quantities, from_zero, lengths, rate_unit}
use Rattle.rw_model.specs.Slots.{where_chosen, slots_of}
use Rattle.rw_model.specs.Objects.{Object, Placed, placed_from, slots_from, all_slots, slot_at, first_from, object_named, slot_named, slot_in_place}
use Rattle.rw_model.specs.Objects.{is_in_place, is_named}
use Rattle.rw_model.specs.Draft.{Draft, Bound, IsObject, IsSlot, IsWithinWidest, bound_of}
use Rattle.rw_model.specs.Links.{link_of, own_bounds, meet, meet_all, linked_with, bounds_in}
use Rattle.rw_model.specs.Basin.{IsLink, IsBound, IsBasin, is_crossed}
use Rattle.rw_model.specs.Kept.{number_at, KeepsBasin}
use Rattle.rw_model.proofs.Grouping.{range_more}
use Rattle.rw_model.proofs.Numbered.{numbered-found, numbered-known}
use Rattle.rw_model.proofs.PlaceNumbers.{number_at-place}

-- ---- the numbers that are found are those of slots

within_first : (test : Bool) (n k count : ℕ) (rest : Option ℕ) → (rest ≡ Some k → (n + 1 ≤ k) × (k < (n + 1) + count))
    → (if test then Some n else rest) ≡ Some k → (n ≤ k) × (k < n + suc count)
within_first true n k count rest later found = let same : n ≡ k = cc in (omega (arith, same), omega (arith, same))
within_first false n k count rest later found = let range = later found in (omega (arith, range.0), omega (arith, range.1))

first_from-within : (n k : ℕ) (test : Placed → Bool) (slots : List Placed) → first_from n test slots ≡ Some k → (n ≤ k) × (k < n + length slots)
first_from-within n k test [] found = absurd (cc)
first_from-within n k test (placed ∷ slots) found =
    within_first (test placed) n k (length slots) (first_from (n + 1) test slots) (first_from-within (n + 1) k test slots) found

pub known_in_place : (objects : List Object) (owner place k : ℕ) → slot_in_place objects owner place ≡ Some k → IsSlot objects k
known_in_place objects owner place k found =
    let range = first_from-within 1 k (is_in_place owner place) (all_slots objects) found in
    record { first = range.0; last = omega (arith, range.1) }

named_known : (objects : List Object) (name : List ℕ) (owner : Option ℕ) (k : ℕ)
    → option_and_then (λ o. first_from 1 (is_named o name) (all_slots objects)) owner ≡ Some k → IsSlot objects k
named_known objects name None k found = absurd (cc)
named_known objects name (Some o) k found =
    let range = first_from-within 1 k (is_named o name) (all_slots objects) found in
    record { first = range.0; last = omega (arith, range.1) }

pub known_by_name : (objects : List Object) (object name : List ℕ) (k : ℕ) → slot_named objects object name ≡ Some k → IsSlot objects k
known_by_name objects object name k found = named_known objects name (object_named objects object) k found

-- ---- the slots of a link are known

at_place : (objects : List Object) (links : List (List ℕ)) (found : Option (List ℕ)) (place : ℕ) → slice_get links place ≡ found
    → All (IsLink objects) links
    → All (IsSlot objects) (unwrap_or found [])
at_place objects links None place found all = All-nil (IsSlot objects)
at_place objects links (Some link) place found all =
    (subst (IsLink objects) (get_or_from_slice_get links place link link found) (all place link (slice_get_within links place link found))).known

with_place : (objects : List Object) (links : List (List ℕ)) (place : Option ℕ) → All (IsLink objects) links
    → All (IsSlot objects) (unwrap_or (option_and_then (λ at. slice_get links at) place) [])
with_place objects links None all = All-nil (IsSlot objects)
with_place objects links (Some place) all = at_place objects links (slice_get links place) place refl all

pub linked_with-known : (objects : List Object) (links : List (List ℕ)) (slot : ℕ) → All (IsLink objects) links
    → All (IsSlot objects) (linked_with links slot)
linked_with-known objects links slot all = with_place objects links (link_of links slot) all

-- ---- whether there is a slot with no value

pub some_crossed : (p : ℕ → Bool) (n before : ℕ) → before < n → p (before + 1) ≡ true → list_any p (range_with_len 1 n) ≡ true
some_crossed p n before near passes =
    let at : 1 + before ≡ before + 1 = omega arith in
    let near_length : before < length (range_with_len 1 n) = omega (arith, near, length-range_with_len 1 n) in
    list_any_at p (range_with_len 1 n) before 0 near_length (ap p (get_or-range_with_len 1 n before 0 near ∙ at) ∙ passes)

pub none_crossed_more : (p : ℕ → Bool) (before : ℕ) → list_any p (range_with_len 1 before) ≡ false → p (before + 1) ≡ false
    → list_any p (range_with_len 1 (before + 1)) ≡ false
none_crossed_more p before none fails =
    ap (list_any p) (range_more before) ∙ list_any-append p (range_with_len 1 before) ((before + 1) ∷ []) ∙ rw (none, fails) refl

-- ---- the table of slots has bounds in range

-- its usual bounds are within its widest, and those are quantities
pub record IsBounded (slot : Slot) : Type 0 where
  pub usual : IsInside slot.usual slot.widest
  pub widest : IsInside slot.widest all_quantities

abbrev pub AreBounded : List (Option Slot) → Type 0
AreBounded [] = Unit {0}
AreBounded (None ∷ slots) = AreBounded slots
AreBounded (Some slot ∷ slots) = IsBounded slot × AreBounded slots

bounded_flow : (name : List ℕ) (role : Role) → IsBounded (flow name role)
bounded_flow name role = record {
  usual = record { order = omega (arith, ints); low = omega (arith, ints); high = omega (arith, ints) };
  widest = record { order = omega (arith, ints); low = omega (arith, ints); high = omega (arith, ints) };
}

bounded_range : (name : List ℕ) (dim : Dimension) (role : Role) (bounds : Bounds) → IsInside bounds all_quantities
    → IsBounded (of_range name dim role bounds)
bounded_range name dim role bounds inside = record {
  usual = record { order = inside.order; low = omega (arith, ints); high = omega (arith, ints) };
  widest = inside;
}

all_inside : IsInside all_quantities all_quantities
all_inside = record { order = omega (arith, ints); low = omega (arith, ints); high = omega (arith, ints) }

zero_inside : IsInside from_zero all_quantities
zero_inside = record { order = omega (arith, ints); low = omega (arith, ints); high = omega (arith, ints) }

lengths_inside : IsInside lengths all_quantities
lengths_inside = record { order = omega (arith, ints); low = omega (arith, ints); high = omega (arith, ints) }

chosen_too : (chosen : Bool) (slot : Slot) (slots : List (Option Slot)) → IsBounded slot → AreBounded slots
    → AreBounded (where_chosen chosen slot ∷ slots)
chosen_too true slot slots here there = (here, there)
chosen_too false slot slots here there = there

data_bounded : (slots : List DataSlot) → AreBounded (slots_of (DataObject slots))
data_bounded [] = tt
data_bounded (slot ∷ slots) = (bounded_range slot.name slot.dim Neither all_quantities all_inside, data_bounded slots)

-- three flows that may be there
chosen_flows : (a b c : Bool) (x y z : List ℕ) (p q r : Role) (slots : List (Option Slot)) → AreBounded slots
    → AreBounded (where_chosen a (flow x p) ∷ where_chosen b (flow y q) ∷ where_chosen c (flow z r) ∷ slots)
chosen_flows a b c x y z p q r slots there =
    chosen_too a (flow x p) (where_chosen b (flow y q) ∷ where_chosen c (flow z r) ∷ slots) (bounded_flow x p)
    (chosen_too b (flow y q) (where_chosen c (flow z r) ∷ slots) (bounded_flow y q) (chosen_too c (flow z r) slots (bounded_flow z r) there))

bounded_sides : (local_inflow diversion return_flow : Bool) (slots : List (Option Slot)) → AreBounded slots
    → AreBounded (where_chosen local_inflow (flow (codes "LocalInflow") Fixed) ∷ where_chosen diversion (flow (codes "Diversion") Fixed)
    ∷ where_chosen return_flow (flow (codes "ReturnFlow") Fixed) ∷ slots)
bounded_sides l d r slots there = chosen_flows l d r (codes "LocalInflow") (codes "Diversion") (codes "ReturnFlow") Fixed Fixed Fixed slots there

abbrev derived_slots : Bool → Bool → Bool → List (Option Slot)
derived_slots evaporation evaporates spills =
    where_chosen evaporation (of_range (codes "EvaporationRate") rate_unit Fixed lengths) ∷
    where_chosen evaporates (flow (codes "Evaporation") Derived) ∷
    where_chosen spills (flow (codes "Release") Derived) ∷
    where_chosen spills (flow (codes "Spill") Derived) ∷
    []

bounded_derived : (evaporation evaporates spills : Bool) → AreBounded (derived_slots evaporation evaporates spills)
bounded_derived evaporation evaporates spills =
    chosen_too evaporation (of_range (codes "EvaporationRate") rate_unit Fixed lengths)
    (where_chosen evaporates (flow (codes "Evaporation") Derived) ∷ where_chosen spills (flow (codes "Release") Derived)
    ∷ where_chosen spills (flow (codes "Spill") Derived) ∷ [])
    (bounded_range (codes "EvaporationRate") rate_unit Fixed lengths lengths_inside)
    (chosen_flows evaporates spills spills (codes "Evaporation") (codes "Release") (codes "Spill") Derived Derived Derived [] tt)

bounded_slots : (kind : Kind) → AreBounded (slots_of kind)
bounded_slots (DataObject slots) = data_bounded slots
bounded_slots Gage = (bounded_flow _ _, (bounded_flow _ _, tt))
bounded_slots Confluence = (bounded_flow _ _, (bounded_flow _ _, (bounded_flow _ _, tt)))
bounded_slots Bifurcation = (bounded_flow _ _, (bounded_flow _ _, (bounded_flow _ _, tt)))
bounded_slots (Reach lag history local_inflow diversion return_flow) =
    (bounded_flow _ _, (bounded_flow _ _, bounded_sides local_inflow diversion return_flow [] tt))
bounded_slots (Reservoir initial_storage table local_inflow diversion return_flow evaporation max_release) = (
  bounded_flow _ _,
  (
    bounded_flow _ _,
    (
      bounded_range (codes "Storage") volume Neither from_zero zero_inside,
      chosen_too (is_some table) (of_range (codes "PoolElevation") length-unit Neither lengths)
          (where_chosen local_inflow (flow (codes "LocalInflow") Fixed) ∷ where_chosen diversion (flow (codes "Diversion") Fixed)
          ∷ where_chosen return_flow (flow (codes "ReturnFlow") Fixed) ∷
          derived_slots evaporation (evaporation && is_some table) (is_some max_release))
          (bounded_range (codes "PoolElevation") length-unit Neither lengths lengths_inside)
          (bounded_sides local_inflow diversion return_flow (derived_slots evaporation (evaporation && is_some table) (is_some max_release))
          (bounded_derived evaporation (evaporation && is_some table) (is_some max_release))),
    ),
  ),
)
bounded_slots (WaterUser depletion Request) = (bounded_flow _ _, (bounded_flow _ _, (bounded_flow _ _, (bounded_flow _ _, tt))))
bounded_slots (WaterUser depletion Rule) = (bounded_flow _ _, (bounded_flow _ _, (bounded_flow _ _, (bounded_flow _ _, tt))))
bounded_slots (Canal seepage) = (bounded_flow _ _, (bounded_flow _ _, (bounded_flow _ _, tt)))
bounded_slots (PowerReservoir initial_storage table max_release tailwater power) = (
  bounded_flow _ _,
  (
    bounded_flow _ _,
    (
      bounded_range _ volume _ from_zero zero_inside,
      (
        bounded_range _ length-unit _ lengths lengths_inside,
        (
          bounded_range _ energy _ from_zero zero_inside,
          (bounded_range _ energy _ from_zero zero_inside, (bounded_flow _ _, (bounded_flow _ _, tt))),
        ),
      ),
    ),
  ),
)
bounded_slots (RoutedReach initial_content release) =
    (bounded_flow _ _, (bounded_flow _ _, (bounded_range _ volume _ from_zero zero_inside, tt)))

abbrev IsBoundedAt : Placed → Type 0
IsBoundedAt placed = IsBounded placed.slot

bounded_placed : (owner place : ℕ) (slots : List (Option Slot)) → AreBounded slots → All IsBoundedAt (placed_from owner place slots)
bounded_placed owner place [] bounded = All-nil IsBoundedAt
bounded_placed owner place (None ∷ slots) bounded = bounded_placed owner (place + 1) slots bounded
bounded_placed owner place (Some slot ∷ slots) bounded =
    All-cons IsBoundedAt _ _ bounded.0 (bounded_placed owner (place + 1) slots bounded.1)

bounded_from : (number : ℕ) (objects : List Object) → All IsBoundedAt (slots_from number objects)
bounded_from number [] = All-nil IsBoundedAt
bounded_from number (object ∷ objects) =
    All-append IsBoundedAt _ _ (bounded_placed number 0 (slots_of object.kind) (bounded_slots object.kind)) (bounded_from (number + 1) objects)

pub slot_at-bounded : (objects : List Object) (slot : ℕ) (placed : Placed) → slot_at objects slot ≡ Some placed → IsBounded placed.slot
slot_at-bounded objects slot placed found =
    let there = numbered-found (all_slots objects) slot placed found in
    subst IsBoundedAt (get_or_from_slice_get (all_slots objects) (slot - 1) placed placed there)
    (bounded_from 1 objects (slot - 1) placed (slice_get_within (all_slots objects) (slot - 1) placed there))

-- ---- what bounds leave is within them

IsInside-within : (bounds inner outer : Bounds) → bounds.0 ≤ℤ bounds.1 → inner.0 ≤ℤ bounds.0 → bounds.1 ≤ℤ inner.1 → IsInside inner outer
    → IsInside bounds outer
IsInside-within bounds inner outer order low high inside =
    record { order = order; low = omega (arith, ints, low, inside.low); high = omega (arith, ints, high, inside.high) }

max_above : (a b : ℤ) → a ≤ℤ int_max a b
max_above a b = (fold-int_max_bounds a (b ∷ []) (int_max a b) refl).0

min_below : (a b : ℤ) → int_min a b ≤ℤ a
min_below a b = (fold-int_min_bounds a (b ∷ []) (int_min a b) refl).0

meet_all-within : (objects : List Object) (own : List Bound) (bounds : Bounds) (slots : List ℕ)
    → (bounds.0 ≤ℤ (meet_all objects own bounds slots).0) × ((meet_all objects own bounds slots).1 ≤ℤ bounds.1)
meet_all-within objects own bounds [] = (omega (arith, ints), omega (arith, ints))
meet_all-within objects own bounds (slot ∷ slots) =
    let first = own_bounds objects own slot in
    let rest = meet_all-within objects own (meet bounds first) slots in
    (omega (arith, ints, rest.0, max_above bounds.0 first.0), omega (arith, ints, rest.1, min_below bounds.1 first.1))

found_here : (objects : List Object) (bound : Bound) (own : List Bound) (slot : ℕ) (bounds : Bounds) → IsBound objects bound
    → (bound_of own slot ≡ Some bounds → IsWithinWidest objects slot bounds)
    → (test : Bool) → (slot == bound.slot) ≡ test → (if test then Some bound.bounds else bound_of own slot) ≡ Some bounds
    → IsWithinWidest objects slot bounds
found_here objects bound own slot bounds here there true same found =
    let at : bound.slot ≡ slot = grind arith in
    let are : bound.bounds ≡ bounds = cc in
    subst (λ s. IsWithinWidest objects s bounds) at (subst (λ b. IsWithinWidest objects bound.slot b) are here.within)
found_here objects bound own slot bounds here there false other found = there found

found_within : (objects : List Object) (own : List Bound) (slot : ℕ) (bounds : Bounds) → All (IsBound objects) own
    → bound_of own slot ≡ Some bounds
    → IsWithinWidest objects slot bounds
found_within objects [] slot bounds all found = absurd (cc)
found_within objects (bound ∷ own) slot bounds all found =
    found_here objects bound own slot bounds (All-head (IsBound objects) bound own all)
    (found_within objects own slot bounds (All-tail (IsBound objects) bound own all)) (slot == bound.slot) refl found

own_of : (objects : List Object) (own : List Bound) (slot : ℕ) (placed : Placed) (there : Option Bounds)
    → (ForSome there (λ bounds. IsInside bounds placed.slot.widest)) → slot_at objects slot ≡ Some placed
    → IsInside (unwrap_or there (unwrap_or (option_map (λ (p : Placed). p.slot.usual) (slot_at objects slot)) all_quantities)) placed.slot.widest
own_of objects own slot placed (Some bounds) inside found = inside bounds refl
own_of objects own slot placed None inside found = rw found (slot_at-bounded objects slot placed found).usual

own_bounds-within : (objects : List Object) (own : List Bound) (slot : ℕ) (placed : Placed) → All (IsBound objects) own
    → slot_at objects slot ≡ Some placed
    → IsInside (own_bounds objects own slot) placed.slot.widest
own_bounds-within objects own slot placed all found =
    own_of objects own slot placed (bound_of own slot) (λ bounds is. found_within objects own slot bounds all is placed found) found

not_true : (p : ℕ → Bool) (n slot : ℕ) → 1 ≤ slot → slot ≤ n → list_any p (range_with_len 1 n) ≡ false → (test : Bool) → p slot ≡ test
    → p slot ≡ false
not_true p n slot first last none false fails = fails
not_true p n slot first last none true passes =
    let near : slot - 1 < n = omega (arith, first, last) in
    let here : (slot - 1) + 1 ≡ slot = omega (arith, first) in
    let some = some_crossed p n (slot - 1) near (ap p here ∙ passes) in
    absurd (cc)

uncrossed : (bounds : Bounds) → is_crossed bounds ≡ false → bounds.0 ≤ℤ bounds.1
uncrossed bounds open' =
    by_lt_z bounds.1 bounds.0 (λ below. let crossed : is_crossed bounds ≡ true = sym (omega (arith, ints)) in absurd (cc)) (λ above. above)

pub bounds_in-within : (draft : Draft) (slot : ℕ) → IsBasin draft → IsSlot draft.objects slot
    → IsWithinWidest draft.objects slot (bounds_in draft.objects draft.links draft.bounds slot)
bounds_in-within draft slot basin known placed found =
    let p : (ℕ → Bool) = λ s. is_crossed (bounds_in draft.objects draft.links draft.bounds s) in
    let open' = not_true p (length (all_slots draft.objects)) slot known.first known.last basin.meets (p slot) refl in
    let within = meet_all-within draft.objects draft.bounds (own_bounds draft.objects draft.bounds slot) (linked_with draft.links slot) in
    IsInside-within (bounds_in draft.objects draft.links draft.bounds slot) (own_bounds draft.objects draft.bounds slot) placed.slot.widest
    (uncrossed (bounds_in draft.objects draft.links draft.bounds slot) open') within.0 within.1
    (own_bounds-within draft.objects draft.bounds slot placed basin.whole.bounds found)

is_placed : (objects : List Object) (slot : ℕ) → IsSlot objects slot → (placed : Placed) × (slot_at objects slot ≡ Some placed)
is_placed objects slot known =
    let near : slot - 1 < length (all_slots objects) = omega (arith, known.first, known.last) in
    let there = got_within (all_slots objects) (slot - 1) near in
    (there.0, numbered-known (all_slots objects) slot known.first ∙ there.1)

pub bounds_in-quantities : (draft : Draft) (slot : ℕ) → IsBasin draft → IsSlot draft.objects slot
    → IsInside (bounds_in draft.objects draft.links draft.bounds slot) all_quantities
bounds_in-quantities draft slot basin known =
    let at = is_placed draft.objects slot known in
    let inside = bounds_in-within draft slot basin known at.0 at.1 in
    IsInside-within (bounds_in draft.objects draft.links draft.bounds slot) at.0.slot.widest all_quantities inside.order inside.low inside.high
    (slot_at-bounded draft.objects slot at.0 at.1).widest

-- ---- what is kept of them

pub kept_bounds : (draft : Draft) (slots : List ℕ) (groups : List (List ℕ)) (bounds : List Bounds) (numbers : List (Option ℕ)) (slot : ℕ) (d : Bounds)
    → KeepsBasin draft slots groups bounds numbers → IsSlot draft.objects slot
    → (slot - 1 < length bounds) × (slice_index_or bounds (slot - 1) d ≡ bounds_in draft.objects draft.links draft.bounds slot)
kept_bounds draft slots groups bounds numbers slot d kept known =
    let f = bounds_in draft.objects draft.links draft.bounds in
    let n = length (all_slots draft.objects) in
    let near : slot - 1 < n = omega (arith, known.first, known.last) in
    let at : 1 + (slot - 1) ≡ slot = omega (arith, known.first) in (
      omega (arith, near, ap length kept.bounds_are, length-map-range_with_len f 1 n),
      ap (λ bs. slice_index_or bs (slot - 1) d) kept.bounds_are ∙ get_or-map-range_with_len f 1 n (slot - 1) slot d near at,
    )

pub kept_number : (draft : Draft) (slots : List ℕ) (groups : List (List ℕ)) (bounds : List Bounds) (numbers : List (Option ℕ)) (object place : ℕ)
    (d : Option ℕ)
    → KeepsBasin draft slots groups bounds numbers → IsObject draft.objects object → place < 12
    → ((object - 1) * 12 + place < length numbers) × (slice_index_or numbers ((object - 1) * 12 + place) d ≡ slot_in_place draft.objects object place)
kept_number draft slots groups bounds numbers object place d kept known inside =
    let f = number_at draft.objects in
    let n = length draft.objects * 12 in
    let far = (object - 1) * 12 + place in
    let near : far < n = omega (arith, known.first, known.last, inside) in
    let same : 0 + far ≡ far = omega arith in
    let at : (object - 1) + 1 ≡ object = omega (arith, known.first) in (
      omega (arith, near, ap length kept.numbers_are, length-map-range_with_len f 0 n),
      ap (λ ns. slice_index_or ns far d) kept.numbers_are ∙ get_or-map-range_with_len f 0 n far far d near same
          ∙ number_at-place draft.objects (object - 1) place inside ∙ ap (λ o. slot_in_place draft.objects o place) at,
    )

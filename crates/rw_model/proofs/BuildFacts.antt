-- The tests of kinds, objects and bounds decide what their words say, and nothing is refused exactly where they can be built.
use Rattle.rw_base.proofs.Common.{◌≡◌, ◌↔◌, ◌∙◌, ◌≤◌, ℕ, nat_lt, ℤ, pos, ◌-ℤ◌, Bool, true, false, ◌||◌, not, if◌then◌else◌, IsTrue, List, [], ◌∷◌}
use Rattle.rw_base.proofs.Common.{◌++◌, length, Option, None, Some, refl, subst, arith, is_some, IsSome, Decides, list_all, ForSome, both_ways}
use Rattle.rw_base.proofs.Common.{nat_tests, Decides-and, Decides-eqb, Decides-like, Decides-by_and}
use Rattle.rw_base.specs.Quantity.{quantity_max, IsQuantity}
use Rattle.rw_base.specs.Range.{is_from_to}
use Rattle.rw_base.proofs.Tests.{Decides-le, Decides-int_le, Decides-from_to, passed, spared, unless, where-true}
use Rattle.rw_table.specs.declared.fault.TheConstants.{ELEVATION_MAX}
use Rattle.rw_table.specs.Table.{Row}
use Rattle.rw_table.specs.Curve.{first_row, last_row, IsVolumeInside}
use Rattle.rw_model.specs.declared.data_slots.DataSlot.{DataSlot}
use Rattle.rw_model.specs.declared.limits.TheConstants.{DATA_SLOTS_MAX, LAG_MAX, PARTS, POWER_MAX, SEEPAGE_MAX}
use Rattle.rw_model.specs.declared.kind.Kind.{Kind}
use Rattle.rw_model.specs.declared.kind.Kind.TheVariants.{DataObject, Gage, Confluence, Bifurcation, Reach, Reservoir, WaterUser, Canal}
use Rattle.rw_model.specs.declared.kind.Kind.TheVariants.{PowerReservoir, RoutedReach}
use Rattle.rw_model.specs.Name.{IsName, is_name}
use Rattle.rw_model.specs.Kind.{IsAmount, IsDataSlots, IsLagged, IsStored, IsPlant, IsPowered, IsRouted, IsKind, is_data_slots, is_lagged, is_inside}
use Rattle.rw_model.specs.Kind.{is_release, is_stored, is_plant, is_powered, is_routed, is_kind}
use Rattle.rw_model.specs.Slot.{Bounds, IsInside}
use Rattle.rw_model.specs.Objects.{Object, Placed, object_named, all_slots, slot_at}
use Rattle.rw_model.specs.Draft.{Bound, IsSound, IsFresh, CanAdd, bound_of, IsSlot, CanBound}
use Rattle.rw_model.specs.Links.{is_slot}
use Rattle.rw_base.specs.Answers.{Finds}
use Rattle.rw_base.proofs.Lists.{none_there}
use Rattle.rw_model.specs.declared.fault.BuildFault.{BuildFault}
use Rattle.rw_model.specs.Refusal.{build_refusal_of, bad_parameter, too_many}
use Rattle.rw_model.specs.Build.{is_sound, is_fresh, size_refusal, object_refusal, is_allowed, bound_refusal}
use Rattle.rw_model.proofs.NameFacts.{Decides-name}

some_same : {A : Type 0} {x y : A} → Some x ≡ Some y → x ≡ y
some_same e = cc

Decides-amount : (z : ℤ) → Decides (is_from_to (pos 0) quantity_max z) (IsAmount z)
Decides-amount z = Decides-like _ (λ p. record { low = p.0; high = p.1 }) (λ p. (p.low, p.high)) (Decides-from_to _ _ z)

Decides-quantity : (z : ℤ) → Decides (is_from_to (pos 0 -ℤ quantity_max) quantity_max z) (IsQuantity z)
Decides-quantity z = Decides-like _ (λ p. record { low = p.0; high = p.1 }) (λ p. (p.low, p.high)) (Decides-from_to _ _ z)

Decides-data : (slots : List DataSlot) → Decides (is_data_slots slots) (IsDataSlots slots)
Decides-data slots = Decides-like (is_data_slots slots)
    (λ p. record { some = p.0; few = p.1.0; named = p.1.1 }) (λ p. (p.some, (p.few, p.named)))
    (Decides-and _ _ (Decides-le 1 (length slots)) (Decides-and _ _ (Decides-le (length slots) DATA_SLOTS_MAX)
    (Decides-by_and (λ (slot : DataSlot). is_name slot.name) (λ (slot : DataSlot). IsName slot.name)
    (list_all (λ (slot : DataSlot). is_name slot.name))
    (λ slot. Decides-name slot.name) refl (λ _ _. refl) slots)))

Decides-lagged : (lag : ℕ) (history : List ℤ) → Decides (is_lagged lag history) (IsLagged lag history)
Decides-lagged lag history = Decides-like (is_lagged lag history)
    (λ p. record { short = p.0; whole = p.1.0; quantities = p.1.1 }) (λ p. (p.short, (p.whole, p.quantities)))
    (Decides-and _ _ (Decides-le lag LAG_MAX) (Decides-and _ _ (Decides-eqb (length history) lag)
    (Decides-by_and (is_from_to (pos 0 -ℤ quantity_max) quantity_max) IsQuantity (list_all (is_from_to (pos 0 -ℤ quantity_max) quantity_max))
    Decides-quantity refl (λ _ _. refl) history)))

Decides-inside : (table : Option (List Row)) (storage : ℤ) → Decides (is_inside table storage) (ForSome table (λ rows. IsVolumeInside rows storage))
Decides-inside None storage = (λ _. λ rows is. cc, λ _. refl)
Decides-inside (Some rows) storage = Decides-like (is_inside (Some rows) storage)
    (λ p. λ others is. subst (λ r. IsVolumeInside r storage) (some_same is) (record { from_first = p.0; to_last = p.1 }))
    (λ p. let inside : IsVolumeInside rows storage = p rows refl in (inside.from_first, inside.to_last))
    (Decides-from_to _ _ storage)

Decides-release : (most : Option ℤ) → Decides (is_release most) (ForSome most IsAmount)
Decides-release None = (λ _. λ z is. cc, λ _. refl)
Decides-release (Some most) = Decides-like (is_release (Some most))
    (λ p. λ z is. subst IsAmount (some_same is) p) (λ p. p most refl) (Decides-amount most)

Decides-evaporates : (evaporation : Bool) (table : Option (List Row)) → Decides (not evaporation || is_some table) (IsTrue evaporation → IsSome table)
Decides-evaporates true table = (λ e. λ _. e, λ h. h refl)
Decides-evaporates false table = (λ e. λ h. absurd (both_ways false refl h), λ _. refl)

Decides-stored : (initial_storage : ℤ) (table : Option (List Row)) (evaporation : Bool) (max_release : Option ℤ)
    → Decides (is_stored initial_storage table evaporation max_release) (IsStored initial_storage table evaporation max_release)
Decides-stored initial_storage table evaporation max_release = Decides-like (is_stored initial_storage table evaporation max_release)
    (λ p. record { amount = p.0; inside = p.1.0; evaporates = p.1.1.0; releases = p.1.1.1 })
    (λ p. (p.amount, (p.inside, (p.evaporates, p.releases))))
    (Decides-and _ _ (Decides-amount initial_storage) (Decides-and _ _ (Decides-inside table initial_storage)
    (Decides-and _ _ (Decides-evaporates evaporation table) (Decides-release max_release))))

Decides-volume : (rows : List Row) (storage : ℤ) → Decides (is_from_to (first_row rows).1 (last_row rows).1 storage) (IsVolumeInside rows storage)
Decides-volume rows storage =
    Decides-like _ (λ p. record { from_first = p.0; to_last = p.1 }) (λ p. (p.from_first, p.to_last)) (Decides-from_to _ _ storage)

Decides-plant : (tailwater : ℤ) (power : ℕ) → Decides (is_plant tailwater power) (IsPlant tailwater power)
Decides-plant tailwater power = Decides-like (is_plant tailwater power)
    (λ p. record { low = p.0.0; high = p.0.1; some = p.1.0; most = p.1.1 }) (λ p. ((p.low, p.high), (p.some, p.most)))
    (Decides-and _ _ (Decides-from_to (pos 0) ELEVATION_MAX tailwater) (Decides-and _ _ (Decides-le 1 power) (Decides-le power POWER_MAX)))

Decides-powered : (initial_storage : ℤ) (rows : List Row) (max_release tailwater : ℤ) (power : ℕ)
    → Decides (is_powered initial_storage rows max_release tailwater power) (IsPowered initial_storage rows max_release tailwater power)
Decides-powered initial_storage rows max_release tailwater power = Decides-like (is_powered initial_storage rows max_release tailwater power)
    (λ p. record { amount = p.0; inside = p.1.0; release = p.1.1.0; plant = p.1.1.1 })
    (λ p. (p.amount, (p.inside, (p.release, p.plant))))
    (Decides-and _ _ (Decides-amount initial_storage) (Decides-and _ _ (Decides-volume rows initial_storage)
    (Decides-and _ _ (Decides-amount max_release) (Decides-plant tailwater power))))

Decides-routed : (initial_content : ℤ) (release : ℕ) → Decides (is_routed initial_content release) (IsRouted initial_content release)
Decides-routed initial_content release = Decides-like (is_routed initial_content release)
    (λ p. record { amount = p.0; some = p.1.0; most = p.1.1 }) (λ p. (p.amount, (p.some, p.most)))
    (Decides-and _ _ (Decides-amount initial_content) (Decides-and _ _ (Decides-le 1 release) (Decides-le release PARTS)))

pub Decides-kind : (kind : Kind) → Decides (is_kind kind) (IsKind kind)
Decides-kind (DataObject slots) = Decides-data slots
Decides-kind Gage = (λ _. tt, λ _. refl)
Decides-kind Confluence = (λ _. tt, λ _. refl)
Decides-kind Bifurcation = (λ _. tt, λ _. refl)
Decides-kind (Reach lag history local_inflow diversion return_flow) = Decides-lagged lag history
Decides-kind (Reservoir initial_storage table local_inflow diversion return_flow evaporation max_release) =
    Decides-stored initial_storage table evaporation max_release
Decides-kind (WaterUser depletion supply) = Decides-le depletion PARTS
Decides-kind (Canal seepage) = Decides-le seepage SEEPAGE_MAX
Decides-kind (PowerReservoir initial_storage table max_release tailwater power) =
    Decides-powered initial_storage table max_release tailwater power
Decides-kind (RoutedReach initial_content release) = Decides-routed initial_content release

pub Decides-sound : (object : Object) → Decides (is_sound object) (IsSound object)
Decides-sound object = Decides-like (is_sound object)
    (λ p. record { name = p.0; kind = p.1 }) (λ p. (p.name, p.kind))
    (Decides-and _ _ (Decides-name object.name) (Decides-kind object.kind))

Decides-none : {A : Type 0} (o : Option A) → Decides (not (is_some o)) (o ≡ None)
Decides-none None = (λ _. refl, λ _. refl)
Decides-none (Some x) = (λ e. absurd (both_ways false refl e), λ e. cc)

pub Decides-fresh : (objects : List Object) (object : Object) → Decides (is_fresh objects object) (IsFresh objects object)
Decides-fresh objects object = Decides-like (is_fresh objects object)
    (λ p. record { name = p.0; slots = p.1 }) (λ p. (p.name, p.slots))
    (Decides-and _ _ (Decides-none (object_named objects object.name)) (λ e. e, λ e. e))

Decides-slot : (objects : List Object) (slot : ℕ) → Decides (is_slot objects slot) (IsSlot objects slot)
Decides-slot objects slot = Decides-like (is_slot objects slot)
    (λ p. record { first = p.0; last = p.1 }) (λ p. (p.first, p.last))
    (Decides-and _ _ (Decides-le 1 slot) (Decides-le slot (length (all_slots objects))))

pub Decides-allowed : (placed : Option Placed) (bounds : Bounds)
    → Decides (is_allowed placed bounds) (ForSome placed (λ p. IsInside bounds p.slot.widest))
Decides-allowed None bounds = (λ _. λ p is. cc, λ _. refl)
Decides-allowed (Some placed) bounds = Decides-like (is_allowed (Some placed) bounds)
    (λ p. λ other is. subst (λ o. IsInside bounds o.slot.widest) (some_same is) (record { order = p.0; low = p.1.0; high = p.1.1 }))
    (λ p. let inside : IsInside bounds placed.slot.widest = p placed refl in (inside.order, (inside.low, inside.high)))
    (Decides-and _ _ (Decides-int_le _ _) (Decides-and _ _ (Decides-int_le _ _) (Decides-int_le _ _)))

-- nothing is wrong with the numbers of objects and slots exactly where they are few
few-iff : (objects : List Object) → (size_refusal objects ≡ None) ↔ ((length objects ≤ 500) × (length (all_slots objects) ≤ 4000))
few-iff objects = (
  λ e.
      let first = spared (nat_lt 500 (length objects)) _ _ e in
      let second = spared (nat_lt 4000 (length (all_slots objects))) None _ first.1 in
      (grind (arith, nat_tests), grind (arith, nat_tests)),
  λ few.
      let objects_few = few.0 in
      let slots_few = few.1 in
      unless (nat_lt 500 (length objects)) _ _ (grind (arith, nat_tests))
      ∙ unless (nat_lt 4000 (length (all_slots objects))) _ _ (grind (arith, nat_tests)),
)

pub object-iff : (objects : List Object) (object : Object) → (object_refusal objects object ≡ None) ↔ CanAdd objects object
object-iff objects object = (
  λ e.
      let first = passed (is_sound object) _ _ e in
      let second = passed (is_fresh objects object) _ _ first.1 in
      let few = (few-iff (objects ++ object ∷ [])).0 second.1 in
      record { sound = (Decides-sound object).0 first.0; fresh = (Decides-fresh objects object).0 second.0; few_objects = few.0; few_slots = few.1 },
  λ can.
      where-true (is_sound object) _ _ ((Decides-sound object).1 can.sound)
      ∙ where-true (is_fresh objects object) _ _ ((Decides-fresh objects object).1 can.fresh)
      ∙ (few-iff (objects ++ object ∷ [])).1 (can.few_objects, can.few_slots),
)

-- an object with which nothing is found to be wrong can be added
pub found-addable : (objects : List Object) (object : Object) (result : Option BuildFault)
    → Finds build_refusal_of result (object_refusal objects object)
    → result ≡ None → CanAdd objects object
found-addable objects object None finds none = (object-iff objects object).0 finds
found-addable objects object (Some fault) finds none = absurd cc

-- what is wrong with the numbers, by their two tests
pub size-is : (objects : List Object) (a b : Bool) → nat_lt 500 (length objects) ≡ a → nat_lt 4000 (length (all_slots objects)) ≡ b
    → size_refusal objects ≡ (if a then Some (too_many 500) else (if b then Some (too_many 4000) else None))
size-is objects a b e f = rw (e, f) refl

absent : {A : Type 0} (o : Option A) → o ≡ None → is_some o ≡ false
absent o e = rw e refl

pub bound-iff : (objects : List Object) (own : List Bound) (slot : ℕ) (bounds : Bounds)
    → (bound_refusal objects own slot bounds ≡ None) ↔ CanBound objects own slot bounds
bound-iff objects own slot bounds = (
  λ e.
      let first = passed (is_slot objects slot) _ _ e in
      let second = spared (is_some (bound_of own slot)) _ _ first.1 in
      let third = passed (is_allowed (slot_at objects slot) bounds) None bad_parameter second.1 in
      record {
        known = (Decides-slot objects slot).0 first.0;
        free = none_there (bound_of own slot) second.0;
        within = (Decides-allowed (slot_at objects slot) bounds).0 third.0;
      },
  λ can.
      where-true (is_slot objects slot) _ _ ((Decides-slot objects slot).1 can.known)
      ∙ unless (is_some (bound_of own slot)) _ _ (absent _ can.free)
      ∙ where-true (is_allowed (slot_at objects slot) bounds) _ _ ((Decides-allowed (slot_at objects slot) bounds).1 can.within),
)

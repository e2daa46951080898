-- The basin is gone through: what was looked at, and what is left.
use Rattle.rw_order.proofs.Common.{Bool, Kind, List, None, Object, Option, Placed, Reservoir, Some, [], ap, ap₂, arith, both_ways, cases_Bool, drop}
use Rattle.rw_order.proofs.Common.{false, inl, inr, is_number, list_all, nat_eq_equiv, nat_tests, none-some}
use Rattle.rw_order.proofs.Common.{numbered-known, object_at, option_and_then, option_map, refl, same_Some, slice_get, slot_at}
use Rattle.rw_order.proofs.Common.{slot_in_place, sym, true, unwrap_or, ℕ, ◌&&◌, ◌+◌, ◌-◌, ◌==◌, ◌||◌, ◌∙◌, ◌≡◌, ◌≤◌}
use Rattle.rw_order.specs.Free.{has_level_in, is_level, is_free}
use Rattle.rw_model.proofs.Owned.{placed_in}
use Rattle.rw_order.proofs.Slots.{in_its_place}
use Rattle.rw_order.proofs.Links.{apart, owner}
use Rattle.rw_base.proofs.Lists.{dropped_to}

-- ---- objects

abbrev pub AllKeep : List Object → Bool
AllKeep objects = list_all (λ (object : Object). is_free object.kind) objects

looked : (objects : List Object) (k : ℕ) (kind : Kind) (found : Option Object) → slice_get objects k ≡ found
    → option_map (λ (o : Object). o.kind) found ≡ Some kind
    → AllKeep (drop k objects) ≡ (is_free kind && AllKeep (drop (k + 1) objects))
looked objects k kind None at seen = absurd (none-some _ seen)
looked objects k kind (Some object) at seen =
    ap AllKeep (dropped_to objects k object at) ∙ ap (λ kind_is. is_free kind_is && AllKeep (drop (k + 1) objects)) (same_Some _ _ seen)

look : (objects : List Object) (k : ℕ) (kind : Kind) → option_map (λ (o : Object). o.kind) (object_at objects (k + 1)) ≡ Some kind
    → AllKeep (drop k objects) ≡ (is_free kind && AllKeep (drop (k + 1) objects))
look objects k kind seen =
    let before : k + 1 - 1 ≡ k = omega arith in
    let at : slice_get objects k ≡ object_at objects (k + 1) =
    sym (numbered-known objects (k + 1) (omega arith) ∙ ap (λ (n : ℕ). slice_get objects n) before) in
    looked objects k kind (object_at objects (k + 1)) at seen

pub keeps_on : (objects : List Object) (k : ℕ) (kind : Kind) → option_map (λ (o : Object). o.kind) (object_at objects (k + 1)) ≡ Some kind
    → is_free kind ≡ true
    → list_all (λ (object : Object). is_free object.kind) (drop k objects)
    ≡ list_all (λ (object : Object). is_free object.kind) (drop (k + 1) objects)
keeps_on objects k kind seen keeps = look objects k kind seen ∙ ap (λ test. test && AllKeep (drop (k + 1) objects)) keeps

pub loses : (objects : List Object) (k : ℕ) (kind : Kind) → option_map (λ (o : Object). o.kind) (object_at objects (k + 1)) ≡ Some kind
    → is_free kind ≡ false
    → list_all (λ (object : Object). is_free object.kind) (drop k objects) ≡ false
loses objects k kind seen keeps = look objects k kind seen ∙ ap (λ test. test && AllKeep (drop (k + 1) objects)) keeps

pub all_keep : (objects : List Object) → objects ≡ [] → list_all (λ (object : Object). is_free object.kind) objects ≡ true
all_keep objects none = ap AllKeep none

-- ---- a slot

-- whether the slot stands in a place of its owner
in_place_is : (objects : List Object) (slot place : ℕ) (found : Placed) → 1 ≤ slot → slot_at objects slot ≡ Some found
    → is_number slot (slot_in_place objects found.owner place) ≡ (found.place == place)
in_place_is objects slot place found first at = by (found.place == place) refl
  where
    by_slot : (other : Option ℕ) → slot_in_place objects found.owner place ≡ other → (found.place == place) ≡ false → is_number slot other ≡ false
    by_slot None there differ = refl
    by_slot (Some other) there differ = elim (cases_Bool (other == slot)) [
      | inr apart ↦ apart
      | inl same ↦
          let is : other ≡ slot = grind (arith, nat_tests, same) in
          let own = placed_in objects found.owner place other there in
          let one : found ≡ own.placed = same_Some _ _ (sym at ∙ ap (slot_at objects) (sym is) ∙ own.at) in
          let here : found.place ≡ place = ap (λ (p : Placed). p.place) one ∙ own.there in
          absurd (both_ways (found.place == place) differ (grind (arith, nat_tests, here)))
    ]

    by : (test : Bool) → (found.place == place) ≡ test → is_number slot (slot_in_place objects found.owner place) ≡ (found.place == place)
    by true same =
        let is : found.place ≡ place = grind (arith, nat_tests, same) in
        ap (λ p. is_number slot (slot_in_place objects found.owner p)) (sym is) ∙ ap (is_number slot) (in_its_place objects slot found first at)
        ∙ nat_eq_equiv.refl slot ∙ sym same
    by false differ = by_slot (slot_in_place objects found.owner place) refl differ ∙ sym differ

either_is : (kind : Kind) (place : ℕ) → (has_level_in 2 kind && ((place == 2) || (place == 3))) ≡ has_level_in place kind
either_is (Reservoir initial_storage table local_inflow diversion return_flow evaporation max_release) place = refl
either_is kind place = refl

level_by : (objects : List Object) (slot owner : ℕ) (kind : Kind) (found : Option Placed) → 1 ≤ slot → slot_at objects slot ≡ found
    → option_map (λ (p : Placed). p.owner) found ≡ Some owner → option_map (λ (o : Object). o.kind) (object_at objects owner) ≡ Some kind
    → (has_level_in 2 kind && (is_number slot (slot_in_place objects owner 2) || is_number slot (slot_in_place objects owner 3)))
    ≡ is_level objects slot
level_by objects slot owner kind None first at owns is = absurd (none-some _ owns)
level_by objects slot owner kind (Some found) first at owns is =
    let own : found.owner ≡ owner = same_Some _ _ owns in
    ap (λ o. has_level_in 2 kind && (is_number slot (slot_in_place objects o 2) || is_number slot (slot_in_place objects o 3))) (sym own)
    ∙ ap₂ (λ a b. has_level_in 2 kind && (a || b)) (in_place_is objects slot 2 found first at) (in_place_is objects slot 3 found first at)
    ∙ either_is kind found.place
    ∙ sym (ap (λ (p : Option Placed). unwrap_or
    (option_and_then (λ (q : Placed). option_map (λ (o : Object). has_level_in q.place o.kind) (object_at objects q.owner)) p) false) at
    ∙ ap (λ o. unwrap_or (option_map (λ (f : Object). has_level_in found.place f.kind) (object_at objects o)) false) own
    ∙ by (object_at objects owner) is)
  where
    by : (o : Option Object) → option_map (λ (f : Object). f.kind) o ≡ Some kind
        → unwrap_or (option_map (λ (f : Object). has_level_in found.place f.kind) o) false ≡ has_level_in found.place kind
    by None none = absurd (none-some _ none)
    by (Some o) same = ap (has_level_in found.place) (same_Some _ _ same)

pub level_is : (objects : List Object) (slot owner : ℕ) (kind : Kind) (reservoir storage elevation : Bool) → 1 ≤ slot
    → option_map (λ (p : Placed). p.owner) (slot_at objects slot) ≡ Some owner
    → option_map (λ (o : Object). o.kind) (object_at objects owner) ≡ Some kind
    → reservoir ≡ has_level_in 2 kind → storage ≡ is_number slot (slot_in_place objects owner 2)
    → elevation ≡ is_number slot (slot_in_place objects owner 3)
    → (reservoir && (storage || elevation)) ≡ is_level objects slot
level_is objects slot owner kind reservoir storage elevation first owns is a b c =
    ap₂ (λ x y. x && (y || elevation)) a b ∙ ap (λ y. has_level_in 2 kind && (is_number slot (slot_in_place objects owner 2) || y)) c
    ∙ level_by objects slot owner kind (slot_at objects slot) first refl owns is

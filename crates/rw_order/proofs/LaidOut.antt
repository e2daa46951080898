-- A basin of which the order of dispatches is free is laid out so.
use Rattle.rw_order.proofs.Common.{All, AllByRecursion, Bool, Bounds, ByRule, Cells, DataObject, DataSlot, Draft, IsBasin, IsKind, IsPutOf}
use Rattle.rw_order.proofs.Common.{IsSoundObject, Kind, List, Neither, None, Object, Option, Past, Placed, Put, Puts, Request, Shared-of, Slot, Some}
use Rattle.rw_order.proofs.Common.{View, WaterUser, [], all_quantities, and_parts, ap, ap₂, arith, both_ways, bounds-slot, bounds_at-view, cases_eq}
use Rattle.rw_order.proofs.Common.{cases_lt, cell_at, code_of, dim_of, dimension, false, get_or_from_slice_get, get_or_past, group_of, has_slot, inl}
use Rattle.rw_order.proofs.Common.{inr, is_among, is_at, is_between, is_bounded, is_data, known_in_place, known_number, length, length-map, list_all}
use Rattle.rw_order.proofs.Common.{map, nat_tests, none-some, not, not-true, numbered-found, object_at, of_range, option_and_then, option_map}
use Rattle.rw_order.proofs.Common.{owner_of, past_at, past_in, past_of, pos, put, recursion_from_All, refl, same_Some, slice_get, slice_get_within}
use Rattle.rw_order.proofs.Common.{slot_in, slot_in_place, slot_numbers, slots_of, solve-puts, solve_of, some_ago, stands_in, subst, suc, sym, true}
use Rattle.rw_order.proofs.Common.{unwrap_or, view_of, zero, ℕ, ℤ, ◌&&◌, ◌-◌, ◌<◌, ◌==◌, ◌∙◌, ◌∷◌, ◌≡◌, ◌≢◌, ◌≤◌}
use Rattle.rw_order.specs.Free.{has_level_in, has_other_level, is_level, joins_levels, is_free, order_free}
use Rattle.rw_order.proofs.Places.{HaveSlots}
use Rattle.rw_order.proofs.Sounds.{IsLaidOut, in_bounds}
use Rattle.rw_order.proofs.Turns.{in_range, ready_object}
use Rattle.rw_model.proofs.Owned.{owner_in, placed_in}
use Rattle.rw_order.proofs.Links.{any_there, apart, contains_of, hits, owner, reached, same_bounds, same_group, same_or_linked, same_step}
use Rattle.rw_order.proofs.Flat.{is_flat, level_flat, level_of}
use Rattle.rw_base.proofs.Lists.{some_there, weaker_all}

-- ---- an object's kind is sound, and has few places

sound_at : (objects : List Object) (object : ℕ) (found : Object) → All IsSoundObject objects → object_at objects object ≡ Some found
    → IsSoundObject found
sound_at objects object found all is =
    let at = numbered-found objects object found is in
    subst IsSoundObject (get_or_from_slice_get objects (object - 1) found found at)
    (all (object - 1) found (slice_get_within objects (object - 1) found at))

kind_few : (kind : Kind) → IsKind kind → length (slots_of kind) ≤ 11
kind_few (DataObject slots) is =
    let few = is.few in
    let same : length (map (λ (slot : DataSlot). Some (of_range slot.name slot.dim Neither all_quantities)) slots) ≡ length slots =
    length-map slots _ in omega (arith, few, same)
kind_few (WaterUser depletion Request) is = omega arith
kind_few (WaterUser depletion ByRule) is = omega arith
kind_few kind is = omega arith

kind_at : (objects : List Object) (object : ℕ) (found : Object) → object_at objects object ≡ Some found
    → option_map (λ (o : Object). o.kind) (object_at objects object) ≡ Some found.kind
kind_at objects object found is = ap (option_map (λ (o : Object). o.kind)) is

module _ (basin : Draft) (valid : IsBasin basin) where
  -- the places of an object's slots
  few : (object place slot : ℕ) (found : Object) → object_at basin.objects object ≡ Some found → slot_in_place basin.objects object place ≡ Some slot
      → place < 12
  few object place slot found is at =
      let stands = stands_in basin.objects object place slot found.kind (kind_at basin.objects object found is) at in
      let most = kind_few found.kind (sound_at basin.objects object found valid.whole.sound is).kind in
      elim (cases_lt place (length (slots_of found.kind))) [
        | inl near ↦ omega (arith, near, most)
        | inr past ↦ absurd (none-some _ (sym (get_or_past (slots_of found.kind) place None past) ∙ stands.slot))
      ]

  bounds : (cells : Cells) (object step place slot number : ℕ) (value : ℤ) (found : Object) → object_at basin.objects object ≡ Some found
      → slot_in_place basin.objects object place ≡ Some slot
      → is_bounded (view_of basin cells object step) (put place value number) ≡ in_bounds basin slot value
  bounds cells object step place slot number value found is at =
      ap (λ (b : Bounds). is_between b value && is_between all_quantities value)
      (bounds_at-view basin cells object step place (few object place slot found is at) ∙ bounds-slot basin object place slot at)

  -- ---- the puts of an answer

  own_puts : (object : ℕ) (found : Object) (view : View) (puts : List Put) → object_at basin.objects object ≡ Some found
      → solve_of found.kind view ≡ Puts puts
      → AllByRecursion (IsPutOf found.kind view) puts
  own_puts object found view puts is e =
      recursion_from_All (IsPutOf found.kind view) puts
      (solve-puts found.kind view puts (sound_at basin.objects object found valid.whole.sound is).kind e).0

  slots : (object : ℕ) (found : Object) (view : View) (puts : List Put) → object_at basin.objects object ≡ Some found
      → solve_of found.kind view ≡ Puts puts → HaveSlots basin object puts
  slots object found view puts is e =
      weaker_all (IsPutOf found.kind view) (λ (put : Put). (slot : ℕ) × (slot_in_place basin.objects object put.place ≡ Some slot)) puts
      (λ put is_own.
      let slot = some_there (slot_in found.kind put.place) is_own.own.slot in
      has_slot basin.objects object put.place found.kind slot.0 (in_range basin object found is).0 (kind_at basin.objects object found is) slot.1)
      (own_puts object found view puts is e)

  answers : (cells : Cells) (object step : ℕ) (found : Object) (puts : List Put) → object_at basin.objects object ≡ Some found
      → solve_of found.kind (view_of basin cells object step) ≡ Puts puts
      → AllByRecursion (λ (put : Put). is_bounded (view_of basin cells object step) put ≡ true) puts
  answers cells object step found puts is e =
      weaker_all (IsPutOf found.kind (view_of basin cells object step)) (λ (put : Put). is_bounded (view_of basin cells object step) put ≡ true) puts
      (λ put is_own. is_own.bounded) (own_puts object found (view_of basin cells object step) puts is e)

  -- ---- a past value

  ago : (object : ℕ) (past : Past) → past_of basin object ≡ Some past → 1 ≤ past.ago
  ago object past e = by (object_at basin.objects object) e
    where
      past_slot : (found : ℕ × ℕ) (slot : Option ℕ) → 1 ≤ found.1 → option_map (λ s. record { slot = s; ago = found.1 }) slot ≡ Some past
          → 1 ≤ past.ago
      past_slot found None some e = absurd (none-some _ e)
      past_slot found (Some slot) some e = let here : found.1 ≡ past.ago = ap (λ (p : Past). p.ago) (same_Some _ _ e) in omega (arith, some, here)

      past_by : (found : Option (ℕ × ℕ)) → ((p : ℕ × ℕ) → found ≡ Some p → 1 ≤ p.1) → option_and_then (past_at basin object) found ≡ Some past
          → 1 ≤ past.ago
      past_by None f e = absurd (none-some _ e)
      past_by (Some p) f e = past_slot p (slot_in_place basin.objects object p.0) (f p refl) e

      by : (found : Option Object) → option_and_then (past_at basin object) (option_and_then (λ (o : Object). past_in o.kind) found) ≡ Some past
          → 1 ≤ past.ago
      by None e = absurd (none-some _ e)
      by (Some found) e = past_by (past_in found.kind) (λ p is. some_ago found.kind p is) e

  -- ---- no canal loses water, and no link joins levels

  list_at : (objects : List Object) (test : Object → Bool) (k : ℕ) (found : Object) → list_all test objects ≡ true → slice_get objects k ≡ Some found
      → test found ≡ true
  list_at [] test k found all is = absurd (none-some _ is)
  list_at (first ∷ objects) test zero found all is =
      subst (λ o. test o ≡ true) (same_Some _ _ is) (and_parts (test first) (list_all test objects) all).0
  list_at (first ∷ objects) test (suc k) found all is = list_at objects test k found (and_parts (test first) (list_all test objects) all).1 is

  keeps : order_free basin ≡ true → (object : ℕ) (found : Object) → object_at basin.objects object ≡ Some found → is_free found.kind ≡ true
  keeps free object found is =
      list_at basin.objects (λ (o : Object). is_free o.kind) (object - 1) found
      (and_parts (list_all (λ (o : Object). is_free o.kind) basin.objects) (not (joins_levels basin)) free).0
      (numbered-found basin.objects object found is)

  level_slot : (object place slot : ℕ) (found : Object) → object_at basin.objects object ≡ Some found
      → slot_in_place basin.objects object place ≡ Some slot
      → has_level_in place found.kind ≡ true → is_level basin.objects slot ≡ true
  level_slot object place slot found is at level =
      let own = placed_in basin.objects object place slot at in
      ap (λ (p : Option Placed). unwrap_or (option_and_then
      (λ (q : Placed). option_map (λ (o : Object). has_level_in q.place o.kind) (object_at basin.objects q.owner)) p) false) own.at
      ∙ ap₂ (λ o p. unwrap_or (option_map (λ (f : Object). has_level_in p f.kind) (object_at basin.objects o)) false) own.owns own.there
      ∙ ap (λ (o : Option Object). unwrap_or (option_map (λ (f : Object). has_level_in place f.kind) o) false) is
      ∙ level

  -- what a slot measures, by its object and place
  dim_at : (object place slot : ℕ) (found : Object) → object_at basin.objects object ≡ Some found
      → slot_in_place basin.objects object place ≡ Some slot
      → (what : Slot) × (slot_in found.kind place ≡ Some what) × (dim_of basin.objects slot ≡ what.dim)
  dim_at object place slot found is at =
      let stands = stands_in basin.objects object place slot found.kind (kind_at basin.objects object found is) at in (
        stands.placed.slot,
        stands.slot,
        ap (λ (p : Option Placed). unwrap_or (option_map (λ (q : Placed). q.slot.dim) p) (dimension (pos 0) (pos 0) (pos 0) (pos 0))) stands.found,
      )

  -- no other object with a method owns a slot of a level's group
  levels : order_free basin ≡ true → (object other place slot : ℕ) (found : Object) → object_at basin.objects object ≡ Some found
      → has_level_in place found.kind ≡ true
      → slot_in_place basin.objects object place ≡ Some slot → is_at basin other slot ≡ true → is_data basin other ≡ false → other ≡ object
  levels free object other place slot found is level at reaches ready =
      let hit = hits basin valid other (cell_at slot 0) reaches in
      let shares = Shared-of basin (cell_at slot 0) (cell_at hit.1 0) hit.3 in
      let owns : owner_of basin.objects slot ≡ object = owner_in basin.objects object place slot at in
      let owns_other : owner_of basin.objects hit.1 ≡ other = owner_in basin.objects other hit.0 hit.1 hit.2 in
      elim (same_or_linked basin slot hit.1 valid shares.together) [
        | inl same ↦ sym owns_other ∙ ap (owner_of basin.objects) (sym same) ∙ owns
        | inr both ↦
            let there = ready_object basin other ready in
            let mine = dim_at object place slot found is at in
            let its = dim_at other hit.0 hit.1 there.0 there.1 hit.2 in
            let alike = both.is.alike slot hit.1 (contains_of both.link slot both.first) (contains_of both.link hit.1 both.second) in
            let flat : is_flat its.0.dim ≡ true = ap is_flat (sym its.2 ∙ sym alike ∙ mine.2) ∙ level_flat found.kind place mine.0 level mine.1 in
            let ready_kind : (code_of there.0.kind == 0) ≡ false =
            sym (ap (λ (o : Option Object). unwrap_or (option_map (λ (f : Object). code_of f.kind) o) 0 == 0) there.1) ∙ ready in
            let its_level =
            level_slot other hit.0 hit.1 there.0 there.1 hit.2
            (level_of there.0.kind hit.0 its.0 (keeps free other there.0 there.1) ready_kind its.1 flat) in
            elim (cases_eq other object) [
              | inl one ↦ one
              | inr two ↦ absurd (joined slot hit.1 (λ same. two (sym owns_other ∙ ap (owner_of basin.objects) (sym same) ∙ owns))
                  (level_slot object place slot found is at level) its_level
                  (known_number basin.objects slot (known_in_place basin.objects object place slot at)) (and_parts _ _ hit.3).0)
            ]
      ]
    where
      joined : (one two : ℕ) → one ≢ two → is_level basin.objects one ≡ true → is_level basin.objects two ≡ true
          → is_among one (slot_numbers basin.objects) ≡ true
          → is_among two (group_of basin.objects basin.links one) ≡ true → ⊥
      joined one two differ first second known_one among =
          let apart_two : (two == one) ≡ false = grind (arith, nat_tests, differ) in
          let beside : has_other_level basin one ≡ true =
          any_there (λ other. not (other == one) && is_level basin.objects other) (group_of basin.objects basin.links one) two among
          (ap₂ (λ a b. not a && b) apart_two second) in
          let joins : joins_levels basin ≡ true =
          any_there (λ slot. is_level basin.objects slot && has_other_level basin slot) (slot_numbers basin.objects) one known_one
          (ap₂ (λ a b. a && b) first beside) in
          both_ways (joins_levels basin) (not-true (joins_levels basin)
          (and_parts (list_all (λ (o : Object). is_free o.kind) basin.objects) (not (joins_levels basin)) free).1) joins

pub laid_out : (basin : Draft) → IsBasin basin → order_free basin ≡ true → IsLaidOut basin
laid_out basin valid free = record {
  apart = apart basin valid;
  few = few basin valid;
  owner = owner basin;
  reached = reached basin;
  hits = hits basin valid;
  ago = ago basin valid;
  same_step = same_step basin;
  same_group = same_group basin valid;
  slots = slots basin valid;
  levels = levels basin valid free;
  keeps = keeps basin valid free;
  bounds = bounds basin valid;
  same_bounds = same_bounds basin valid;
  answers = answers basin valid;
}

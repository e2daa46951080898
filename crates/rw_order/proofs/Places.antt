-- The cells of one object's slots, and its puts to them.
use Rattle.rw_order.proofs.Common.{AllByRecursion, Asked, Cells, Content, Draft, List, None, Option, Put, Some, [], ap, arith, asked_by, asked_for}
use Rattle.rw_order.proofs.Common.{cases_lt, cell_at, content_in, false, get_or_past, inl, inr, is_shared, known, map}
use Rattle.rw_order.proofs.Common.{none-some, option_and_then, option_map, places, put, slot_in_place, subst, suc, sym, true, unwrap_or, value_in}
use Rattle.rw_order.proofs.Common.{view_of, ℕ, ℤ, ◌<◌, ◌∙◌, ◌∷◌, ◌≡◌, ◌≢◌}
use Rattle.rw_order.proofs.Held.{AreHeld, Values}
use Rattle.rw_order.proofs.Numbers.{Rise}
use Rattle.rw_order.proofs.Writing.{AreClear, HeldIn, IsClear}
use Rattle.rw_base.proofs.Lists.{mapped_all, weaker_all}
use Rattle.rw_dispatch.proofs.Viewed.{content-slot, known-view}

-- the values in an object's places
abbrev pub values_at : Draft → Cells → ℕ → ℕ → Values
values_at basin cells object step place = option_map (λ (content : Content). content.value) (content_in basin cells object step place)

-- what stands in a place, by its slot
pub known_is : (basin : Draft) (cells : Cells) (object step place : ℕ) (content : Content)
    → known (view_of basin cells object step) place ≡ Some content
    → content_in basin cells object step place ≡ Some content
known_is basin cells object step place content is = elim (cases_lt place 12) [
  | inl near ↦ sym (known-view basin cells object step place near) ∙ is
  | inr past ↦ absurd (none-some _ (sym (get_or_past (map (content_in basin cells object step) places) place None past) ∙ is))
]

-- each put is to a slot of the object
abbrev pub HaveSlots : Draft → ℕ → List Put → Type 0
HaveSlots basin object puts = AllByRecursion (λ (put : Put). (slot : ℕ) × (slot_in_place basin.objects object put.place ≡ Some slot)) puts

-- slots of one object share no value
pub record IsApart (basin : Draft) (object : ℕ) : Type 0 where
  pub own : (place slot step : ℕ) → slot_in_place basin.objects object place ≡ Some slot
      → is_shared basin (cell_at slot step) (cell_at slot step) ≡ true
  pub apart : (place other slot there step : ℕ) → slot_in_place basin.objects object place ≡ Some slot
      → slot_in_place basin.objects object other ≡ Some there
      → place ≢ other → is_shared basin (cell_at slot step) (cell_at there step) ≡ false

cell_held : (cells : Cells) (step : ℕ) (found : Option ℕ) (value : ℤ)
    → option_map (λ (content : Content). content.value) (option_and_then cells (option_map (λ slot. cell_at slot step) found)) ≡ Some value
    → value_in cells (cell_at (unwrap_or found 0) step) ≡ Some value
cell_held cells step None value is = absurd (none-some _ is)
cell_held cells step (Some slot) value is = is

pub asked_held : (basin : Draft) (cells : Cells) (object step : ℕ) (puts : List Put) → AreHeld (values_at basin cells object step) puts
    → HeldIn cells (asked_for basin object step puts)
asked_held basin cells object step puts held =
    mapped_all (λ (put : Asked). value_in cells put.cell ≡ Some put.content.value) (asked_by basin object step) puts
    (weaker_all (λ (put : Put). values_at basin cells object step put.place ≡ Some put.value)
    (λ (put : Put). value_in cells (asked_by basin object step put).cell ≡ Some put.value)
    puts (λ put is. cell_held cells step (slot_in_place basin.objects object put.place) put.value is) held)

clear_from : (basin : Draft) (object step place slot low high : ℕ) (content : Content) (puts : List Put) → IsApart basin object
    → slot_in_place basin.objects object place ≡ Some slot → place < low → Rise low puts high → HaveSlots basin object puts
    → IsClear basin (record { cell = cell_at slot step; content = content }) (asked_for basin object step puts)
clear_from basin object step place slot low high content [] is at lt rise slots = tt
clear_from basin object step place slot low high content (put ∷ puts) is at lt rise slots =
    let first = rise.0 in
    let other : place ≢ put.place = λ same. absurd (omega (arith, lt, first, same)) in
    let turned : put.place ≢ place = λ same. absurd (omega (arith, lt, first, same)) in
    let there = slots.0.1 in (
      (
        ap (λ slot_there. is_shared basin (cell_at slot step) (cell_at (unwrap_or slot_there 0) step)) there
            ∙ is.apart place put.place slot slots.0.0 step at there other,
        ap (λ slot_there. is_shared basin (cell_at (unwrap_or slot_there 0) step) (cell_at slot step)) there
            ∙ is.apart put.place place slots.0.0 slot step there at turned,
      ),
      clear_from basin object step place slot (suc put.place) high content puts is at (omega (arith, lt, first)) rise.1 slots.1,
    )

pub are_clear : (basin : Draft) (object step low high : ℕ) (puts : List Put) → IsApart basin object → Rise low puts high → HaveSlots basin object puts
    → AreClear basin (asked_for basin object step puts)
are_clear basin object step low high [] is rise slots = tt
are_clear basin object step low high (put ∷ puts) is rise slots =
    let there = slots.0.1 in (
      ap (λ slot. is_shared basin (cell_at (unwrap_or slot 0) step) (cell_at (unwrap_or slot 0) step)) there ∙ is.own put.place slots.0.0 step there,
      (
        subst (λ slot. IsClear basin (record { cell = cell_at (unwrap_or slot 0) step; content = (asked_by basin object step put).content })
            (asked_for basin object step puts))
            (sym there)
            (clear_from basin object step put.place slots.0.0 (suc put.place) high (asked_by basin object step put).content puts is there
            (omega arith) rise.1 slots.1),
        are_clear basin object step (suc put.place) high puts is rise.1 slots.1,
      ),
    )

-- where its puts stand in their cells, their values stand in its places
pub puts_stand : (basin : Draft) (cells : Cells) (object step : ℕ) (puts : List Put) → HaveSlots basin object puts
    → HeldIn cells (asked_for basin object step puts)
    → AreHeld (values_at basin cells object step) puts
puts_stand basin cells object step [] slots stand = tt
puts_stand basin cells object step (put ∷ puts) slots stand =
    let there = slots.0.1 in
    let here : value_in cells (cell_at slots.0.0 step) ≡ Some put.value =
    subst (λ slot. value_in cells (cell_at (unwrap_or slot 0) step) ≡ Some put.value) there stand.0 in (
      ap (option_map (λ (c : Content). c.value)) (content-slot basin cells object step put.place (Some slots.0.0) there) ∙ here,
      puts_stand basin cells object step puts slots.1 stand.1,
    )

-- What is known of one object carries over a dispatch of another, and over other timesteps.
use Rattle.rw_order.proofs.Common.{Asked, Bool, ByObject, Cell, Cells, Content, Draft, Event, IdleAnswer, Kind, List, None, Option, Past, Some, View}
use Rattle.rw_order.proofs.Common.{[], ap, ap₂, arith, before_of, both_ways, bounds_in_place, cell_at, content_in, false, held_after, if◌then◌else◌}
use Rattle.rw_order.proofs.Common.{inl, inr, is_at, is_put_at, is_same_object, is_shared, last_put, map, nat_lt, nat_tests, none-some}
use Rattle.rw_order.proofs.Common.{option_and_then, option_map, option_or, past_of, past_value, places, pos, put, refl, slot_in_place, solve_of}
use Rattle.rw_order.proofs.Common.{subst, sym, true, value_in, value_of_past, view_of, written_by, ℕ, ℤ, ◌&&◌, ◌-ℤ◌, ◌-◌, ◌<◌, ◌==◌, ◌||◌, ◌∙◌, ◌∷◌}
use Rattle.rw_order.proofs.Common.{◌≡◌, ◌≢◌, ◌≤◌, ◌⊎◌}
use Rattle.rw_order.proofs.Held.{IsWhole}
use Rattle.rw_order.proofs.AllKinds.{AreLevelledOf}
use Rattle.rw_order.proofs.Resting.{IsAtRest, IsSilent, spoken_grows}
use Rattle.rw_order.proofs.Sounds.{IsLaidOut}
use Rattle.rw_order.proofs.Leaving.{HasSaid, Leaves, WroteNothing}
use Rattle.rw_dispatch.proofs.Viewed.{content-slot}

-- ---- a view by what stands in its places

abbrev view_by : Draft → ℕ → (ℕ → Option Content) → Option ℤ → View
view_by basin object contents past = record {
  own = record { 0 = object };
  now = map contents places;
  past = past;
  bounds = map (bounds_in_place basin object) places;
}

-- an object is silent by what it sees
abbrev SilentBy : Draft → Cells → ℕ → ℕ → Kind → (ℕ → Option Content) → Option ℤ → Type 0
SilentBy basin start object step kind contents past =
    IsWhole (λ place. option_map (λ (c : Content). c.value) (contents place)) past (view_by basin object contents past)
    × AreLevelledOf kind (view_by basin object contents past) (view_of basin start object step)
    × (solve_of kind (view_by basin object contents past) ≡ IdleAnswer)

-- where it sees the same, it is still silent
silent_same : (basin : Draft) (start old new : Cells) (object step : ℕ) (kind : Kind)
    → ((place : ℕ) → content_in basin old object step place ≡ content_in basin new object step place)
    → past_value basin old object step ≡ past_value basin new object step → IsSilent basin start old object step kind
    → IsSilent basin start new object step kind
silent_same basin start old new object step kind same past silent =
    let contents : content_in basin old object step ≡ content_in basin new object step = λ i place. same place i in
    let facts : SilentBy basin start object step kind (content_in basin new object step) (past_value basin new object step) =
    subst (SilentBy basin start object step kind (content_in basin new object step)) past
    (subst (λ (c : ℕ → Option Content). SilentBy basin start object step kind c (past_value basin old object step)) contents
    (silent.whole, silent.levelled, silent.answer)) in
    record { whole = facts.0; levelled = facts.1; answer = facts.2 }

-- ---- cells of other timesteps

module _ (basin : Draft) (start : Cells) (step object : ℕ) (kind : Kind) (laid : IsLaidOut basin) (old : Cells) (event : Event)
    (leaves : Leaves basin start step object kind old event) where
  abbrev new : Cells
  new = held_after basin event old

  same_elsewhere : (cell : Cell) → cell.step.0 ≢ step → old cell ≡ held_after basin event old cell
  same_elsewhere cell other = by (old cell) (held_after basin event old cell) refl refl
    where
      by : (was now : Option Content) → old cell ≡ was → held_after basin event old cell ≡ now → old cell ≡ held_after basin event old cell
      by None None was_is now_is = was_is ∙ sym now_is
      by (Some content) now was_is now_is = was_is ∙ sym (leaves.grows cell content was_is)
      by None (Some content) was_is now_is = elim (leaves.fresh cell content now_is) [
        | inl stood ↦ absurd (none-some _ (sym was_is ∙ stood))
        | inr new_one ↦ absurd (other new_one.2)
      ]

  past_same : (other at : ℕ) (past : Option Past) → past_of basin other ≡ past → at ≤ step
      → option_and_then (value_of_past basin old at) past ≡ option_and_then (value_of_past basin new at) past
  past_same other at None is le = refl
  past_same other at (Some past) is le = by (nat_lt past.ago at) refl
    where
      by : (test : Bool) → nat_lt past.ago at ≡ test
          → (if test then value_in old (cell_at past.slot (at - past.ago)) else before_of basin.objects past.slot (pos at -ℤ pos past.ago))
          ≡ (if test then value_in (held_after basin event old) (cell_at past.slot (at - past.ago)) else before_of basin.objects past.slot
          (pos at -ℤ pos past.ago))
      by false later = refl
      by true before =
          let earlier : past.ago < at = grind (arith, nat_tests, before) in
          let ago = laid.ago other past is in
          let elsewhere : (at - past.ago) ≢ step = λ same. absurd (omega (arith, earlier, same, le, ago)) in
          ap (option_map (λ (c : Content). c.value)) (same_elsewhere (cell_at past.slot (at - past.ago)) elsewhere)

  -- an object at rest whose slots hold the same still is
  rest_same : (other at : ℕ) (of : Kind) → at ≤ step
      → ((place slot : ℕ) → slot_in_place basin.objects other place ≡ Some slot
      → old (cell_at slot at) ≡ held_after basin event old (cell_at slot at))
      → IsAtRest basin start old other at of → IsAtRest basin start (held_after basin event old) other at of
  rest_same other at of le same (inl spoken) = inl (spoken_grows basin start old new other at leaves.grows of spoken)
  rest_same other at of le same (inr silent) =
      inr (silent_same basin start old new other at of (λ place. by place (slot_in_place basin.objects other place) refl)
      (past_same other at (past_of basin other) refl le) silent)
    where
      by : (place : ℕ) (slot : Option ℕ) → slot_in_place basin.objects other place ≡ slot
          → content_in basin old other at place ≡ content_in basin (held_after basin event old) other at place
      by place None is = content-slot basin old other at place None is ∙ sym (content-slot basin (held_after basin event old) other at place None is)
      by place (Some slot) is =
          content-slot basin old other at place (Some slot) is ∙ same place slot is
          ∙ sym (content-slot basin (held_after basin event old) other at place (Some slot) is)

  -- so is one at an earlier timestep
  pub rest_earlier : (other at : ℕ) (of : Kind) → at < step → IsAtRest basin start old other at of
      → IsAtRest basin start (held_after basin event old) other at of
  rest_earlier other at of before rest =
      let apart : at ≢ step = λ same. absurd (omega (arith, before, same)) in
      rest_same other at of (omega (arith, before)) (λ place slot is. same_elsewhere (cell_at slot at) apart) rest

  -- puts that reach none of an object's slots
  unreached : (other place slot : ℕ) (written : List Asked) → slot_in_place basin.objects other place ≡ Some slot
      → is_put_at basin other step written ≡ false
      → last_put basin written (cell_at slot step) ≡ None
  unreached other place slot [] at none = refl
  unreached other place slot (put ∷ written) at none =
      let parts = or_false (put.cell.step.0 == step && is_at basin other put.cell.slot.0) (is_put_at basin other step written) none in
      ap₂ option_or (unreached other place slot written at parts.1) (by (is_shared basin put.cell (cell_at slot step)) refl parts.0)
    where
      or_false : (a b : Bool) → (a || b) ≡ false → (a ≡ false) × (b ≡ false)
      or_false true b e = absurd (both_ways true e refl)
      or_false false b e = (refl, e)

      by : (test : Bool) → is_shared basin put.cell (cell_at slot step) ≡ test
          → (put.cell.step.0 == step && is_at basin other put.cell.slot.0) ≡ false
          → (if test then Some put.content else None) ≡ None
      by false is apart = refl
      by true is apart =
          let here : step ≡ put.cell.step.0 = laid.same_step put.cell (cell_at slot step) is in
          let test : (put.cell.step.0 == step) ≡ true = grind (arith, nat_tests, here) in
          let both : (put.cell.step.0 == step && is_at basin other put.cell.slot.0) ≡ true =
          ap₂ (λ a b. a && b) test (laid.reached other place slot step put.cell at is) in
          absurd (both_ways (put.cell.step.0 == step && is_at basin other put.cell.slot.0) apart both)

  -- and one at the same timestep whose slots no put reaches
  pub rest_unreached : (other : ℕ) (of : Kind) → is_put_at basin other step (written_by event) ≡ false → IsAtRest basin start old other step of
      → IsAtRest basin start (held_after basin event old) other step of
  rest_unreached other of none rest =
      rest_same other step of (omega arith)
      (λ place slot is. sym (ap (λ last. option_or last (old (cell_at slot step))) (unreached other place slot (written_by event) is none))) rest

  -- ---- what another object said

  nothing_carries : (other at place : ℕ) (content : Content) (slot : Option ℕ) → (at ≢ step) ⊎ (other ≢ object)
      → slot_in_place basin.objects other place ≡ slot
      → WroteNothing basin old other at → content_in basin (held_after basin event old) other at place ≡ Some content
      → is_same_object content.writer (ByObject (record { 0 = other })) ≡ false
  nothing_carries other at place content None apart is nothing there =
      absurd (none-some _ (sym (content-slot basin (held_after basin event old) other at place None is) ∙ there))
  nothing_carries other at place content (Some slot) apart is nothing there =
      elim (leaves.fresh (cell_at slot at) content (sym (content-slot basin (held_after basin event old) other at place (Some slot) is) ∙ there)) [
        | inl stood ↦ nothing place content (content-slot basin old other at place (Some slot) is ∙ stood)
        | inr new_one ↦ elim apart [
          | inl later ↦ absurd (later new_one.2)
          | inr someone ↦
              let differs : (object == other) ≡ false = grind (arith, nat_tests, someone) in
              ap (λ w. is_same_object w (ByObject (record { 0 = other }))) new_one.1 ∙ differs
        ]
      ]

  pub said_carries : (other at : ℕ) (of : Kind) → (at ≢ step) ⊎ (other ≢ object) → HasSaid basin start old other at of
      → HasSaid basin start (held_after basin event old) other at of
  said_carries other at of apart (inl spoken) = inl (spoken_grows basin start old (held_after basin event old) other at leaves.grows of spoken)
  said_carries other at of apart (inr nothing) =
      inr (λ place content there. nothing_carries other at place content (slot_in_place basin.objects other place) apart refl nothing there)

-- What a basin's slots and links come to, and what holds of the cells of each log in any order.
use Rattle.rw_order.proofs.Common.{AllByRecursion, Bool, ByObject, Cell, Cells, Content, Draft, Kind, List, None, Object, Option, Past, Put, Puts}
use Rattle.rw_order.proofs.Common.{Reservoir, Some, View, all_quantities, ap, arith, bounds_in, cell_at, content_in, false, given, given_by}
use Rattle.rw_order.proofs.Common.{if◌then◌else◌, inl, inr, is_at, is_between, is_bounded, is_data, is_same_object, is_shared, nat_tests, none-some}
use Rattle.rw_order.proofs.Common.{object_at, option_map, past_of, put, refl, same_Some, slot_in_place, solve_of, subst, sym, true, view_of, ℕ, ℤ}
use Rattle.rw_order.proofs.Common.{◌&&◌, ◌<◌, ◌==◌, ◌∙◌, ◌≡◌, ◌≤◌, ◌⊎◌}
use Rattle.rw_order.specs.Free.{has_level_in, is_free}
use Rattle.rw_order.proofs.Held.{FitsThere}
use Rattle.rw_order.proofs.AllKinds.{AreLevelledOf}
use Rattle.rw_order.proofs.Writing.{AreShared, Grow, HaveZeros}
use Rattle.rw_order.proofs.Places.{HaveSlots, IsApart, values_at}
use Rattle.rw_dispatch.proofs.Viewed.{content-slot, known-view}

-- a value that the slot can have
abbrev pub in_bounds : Draft → ℕ → ℤ → Bool
in_bounds basin slot value = is_between (bounds_in basin.objects basin.links basin.bounds slot) value && is_between all_quantities value

-- each follows from `IsBasin` and `order_free` (`LaidOut.antt`)
pub record IsLaidOut (basin : Draft) : Type 0 where
  pub apart : (object : ℕ) → IsApart basin object
  pub few : (object place slot : ℕ) (found : Object) → object_at basin.objects object ≡ Some found
      → slot_in_place basin.objects object place ≡ Some slot → place < 12
  pub owner : (object place slot step : ℕ) (cell : Cell) → slot_in_place basin.objects object place ≡ Some slot
      → is_shared basin (cell_at slot step) cell ≡ true
      → is_at basin object cell.slot.0 ≡ true
  pub reached : (object place slot step : ℕ) (cell : Cell) → slot_in_place basin.objects object place ≡ Some slot
      → is_shared basin cell (cell_at slot step) ≡ true
      → is_at basin object cell.slot.0 ≡ true
  -- an object that is reached has a slot there
  pub hits : (object : ℕ) (cell : Cell) → is_at basin object cell.slot.0 ≡ true
      → (place : ℕ) × (slot : ℕ) × (slot_in_place basin.objects object place ≡ Some slot) × (is_shared basin cell (cell_at slot cell.step.0) ≡ true)
  pub ago : (object : ℕ) (past : Past) → past_of basin object ≡ Some past → 1 ≤ past.ago
  pub same_step : (cell other : Cell) → is_shared basin cell other ≡ true → other.step.0 ≡ cell.step.0
  pub same_group : (cell one other : Cell) → is_shared basin one other ≡ true → is_shared basin cell one ≡ is_shared basin cell other
  pub slots : (object : ℕ) (found : Object) (view : View) (puts : List Put) → object_at basin.objects object ≡ Some found
      → solve_of found.kind view ≡ Puts puts
      → HaveSlots basin object puts
  pub levels : (object other place slot : ℕ) (found : Object) → object_at basin.objects object ≡ Some found → has_level_in place found.kind ≡ true
      → slot_in_place basin.objects object place ≡ Some slot → is_at basin other slot ≡ true → is_data basin other ≡ false → other ≡ object
  pub keeps : (object : ℕ) (found : Object) → object_at basin.objects object ≡ Some found → is_free found.kind ≡ true
  pub bounds : (cells : Cells) (object step place slot number : ℕ) (value : ℤ) (found : Object) → object_at basin.objects object ≡ Some found
      → slot_in_place basin.objects object place ≡ Some slot
      → is_bounded (view_of basin cells object step) (put place value number) ≡ in_bounds basin slot value
  pub same_bounds : (cell other : Cell) (value : ℤ) → is_shared basin cell other ≡ true
      → in_bounds basin cell.slot.0 value ≡ in_bounds basin other.slot.0 value
  pub answers : (cells : Cells) (object step : ℕ) (found : Object) (puts : List Put) → object_at basin.objects object ≡ Some found
      → solve_of found.kind (view_of basin cells object step) ≡ Puts puts
      → AllByRecursion (λ (put : Put). is_bounded (view_of basin cells object step) put ≡ true) puts

-- ---- cells of a log

-- put by an object with a method that owns a slot of the group, at a timestep up to this one
pub record IsMade (basin : Draft) (last : ℕ) (cell : Cell) (content : Content) : Type 0 where
  pub object : ℕ
  pub writer : content.writer ≡ ByObject (record { 0 = object })
  pub ready : is_data basin object ≡ false
  pub owns : is_at basin object cell.slot.0 ≡ true
  pub step : cell.step.0 ≤ last

-- `start` is what the inputs leave, and `last` the timestep that was opened last
pub record IsSound (basin : Draft) (start : Cells) (last : ℕ) (cells : Cells) : Type 0 where
  pub zeros : HaveZeros cells
  pub kept : Grow start cells
  pub made : (cell : Cell) (content : Content) → cells cell ≡ Some content → (start cell ≡ Some content) ⊎ IsMade basin last cell content
  pub inside : (cell : Cell) (content : Content) → cells cell ≡ Some content → in_bounds basin cell.slot.0 content.value ≡ true
  pub shared : AreShared basin cells

-- ---- what is given of a reservoir's contents is what was given at first

own_none : (object : ℕ) (content : Content) → content.writer ≡ ByObject (record { 0 = object })
    → given_by (record { 0 = object }) (Some content) ≡ None
own_none object content writer =
    let same : (object == object) ≡ true = grind (arith, nat_tests) in
    let own : is_same_object content.writer (ByObject (record { 0 = object })) ≡ true =
    ap (λ w. is_same_object w (ByObject (record { 0 = object }))) writer ∙ same in
    ap (λ test. if test then None else Some (record { value = content.value; number = content.number })) own

module _ (basin : Draft) (start : Cells) (last : ℕ) (laid : IsLaidOut basin) where
  given_kept : (cells : Cells) (object step place slot : ℕ) (found : Object) (was now : Option Content) → IsSound basin start last cells
      → object_at basin.objects object ≡ Some found → has_level_in place found.kind ≡ true → slot_in_place basin.objects object place ≡ Some slot
      → start (cell_at slot step) ≡ was → cells (cell_at slot step) ≡ now
      → given_by (record { 0 = object }) now ≡ given_by (record { 0 = object }) was
  given_kept cells object step place slot found (Some content) now sound is level at was_is now_is =
      ap (given_by (record { 0 = object })) (sym now_is ∙ sound.kept (cell_at slot step) content was_is)
  given_kept cells object step place slot found None None sound is level at was_is now_is = refl
  given_kept cells object step place slot found None (Some content) sound is level at was_is now_is =
      elim (sound.made (cell_at slot step) content now_is) [
        | inl there ↦ absurd (none-some _ (sym was_is ∙ there))
        | inr made ↦
            let own : made.object ≡ object = laid.levels object made.object place slot found is level at made.owns made.ready in
            own_none object content (made.writer ∙ ap (λ o. ByObject (record { 0 = o })) own)
      ]

  content_kept : (cells : Cells) (object step place : ℕ) (found : Object) (slot : Option ℕ) → IsSound basin start last cells
      → object_at basin.objects object ≡ Some found → has_level_in place found.kind ≡ true → slot_in_place basin.objects object place ≡ slot
      → given_by (record { 0 = object }) (content_in basin cells object step place)
      ≡ given_by (record { 0 = object }) (content_in basin start object step place)
  content_kept cells object step place found None sound is level at =
      ap (given_by (record { 0 = object })) (content-slot basin cells object step place None at
      ∙ sym (content-slot basin start object step place None at))
  content_kept cells object step place found (Some slot) sound is level at =
      ap (given_by (record { 0 = object })) (content-slot basin cells object step place (Some slot) at)
      ∙ given_kept cells object step place slot found (start (cell_at slot step)) (cells (cell_at slot step)) sound is level at refl refl
      ∙ ap (given_by (record { 0 = object })) (sym (content-slot basin start object step place (Some slot) at))

  levelled_of : (kind : Kind) (one other : View) → ((place : ℕ) → has_level_in place kind ≡ true → place < 12 → given one place ≡ given other place)
      → AreLevelledOf kind one other
  levelled_of (Reservoir initial_storage table local_inflow diversion return_flow evaporation max_release) one other same =
      record { storage = same 2 refl (omega arith); elevation = same 3 refl (omega arith) }
  levelled_of kind one other same = tt

  pub level_kept : (cells : Cells) (object step : ℕ) (found : Object) → IsSound basin start last cells → object_at basin.objects object ≡ Some found
      → AreLevelledOf found.kind (view_of basin cells object step) (view_of basin start object step)
  level_kept cells object step found sound is =
      levelled_of found.kind (view_of basin cells object step) (view_of basin start object step)
      (λ place level near.
      ap (given_by (record { 0 = object })) (known-view basin cells object step place near)
      ∙ content_kept cells object step place found (slot_in_place basin.objects object place) sound is level refl
      ∙ ap (given_by (record { 0 = object })) (sym (known-view basin start object step place near)))

  -- ---- what stands can be put

  pub can_stand : (cells seen : Cells) (object step : ℕ) (found : Object) → object_at basin.objects object ≡ Some found
      → IsSound basin start last cells
      → FitsThere (values_at basin cells object step) (is_bounded (view_of basin seen object step))
  can_stand cells seen object step found there sound place value number is = by (slot_in_place basin.objects object place) refl
    where
      inside_by : (slot : ℕ) (held : Option Content) → cells (cell_at slot step) ≡ held → option_map (λ (c : Content). c.value) held ≡ Some value
          → in_bounds basin slot value ≡ true
      inside_by slot None held e = absurd (none-some _ e)
      inside_by slot (Some content) held e =
          subst (λ v. in_bounds basin slot v ≡ true) (same_Some _ _ e) (sound.inside (cell_at slot step) content held)

      by : (slot : Option ℕ) → slot_in_place basin.objects object place ≡ slot
          → is_bounded (view_of basin seen object step) (put place value number) ≡ true
      by None at = absurd (none-some _ (sym (ap (option_map (λ (c : Content). c.value)) (content-slot basin cells object step place None at)) ∙ is))
      by (Some slot) at =
          laid.bounds seen object step place slot number value found there at
          ∙ inside_by slot (cells (cell_at slot step)) refl
          (sym (ap (option_map (λ (c : Content). c.value)) (content-slot basin cells object step place (Some slot) at)) ∙ is)

-- How what an object sees goes on, by the puts that an event writes.
use Rattle.rw_laws.proofs.Common.{AllByRecursion, Asked, Bool, ByObject, Cell, Cells, Draft, Event, IsAfterOthers, IsReplaced, Log, None, Option}
use Rattle.rw_laws.proofs.Common.{Some, View, ap, arith, cell_at, cells_of, content_in, false, get_or_past, inl, inr, is_same_object, known}
use Rattle.rw_laws.proofs.Common.{known-view, length, length-map, length-range_with_len, map, nat_lt, nat_tests, option_and_then, option_map}
use Rattle.rw_laws.proofs.Common.{option_or, places, refl, slot_in_place, sym, true, view_of, written_by, ℕ, ◌<◌, ◌∙◌, ◌∷◌, ◌≡◌, ◌≤◌, ◌⊎◌}
use Rattle.rw_laws.proofs.Linked.{last_found, linked}
use Rattle.rw_laws.proofs.Told.{IsWriting}
use Rattle.rw_laws.proofs.Staying.{AreLater, past_stays}
use Rattle.rw_laws.proofs.Writings.{sees_at}

-- ---- what stands in a place

no_place : (basin : Draft) (cells : Cells) (object step place : ℕ) → 12 ≤ place → known (view_of basin cells object step) place ≡ None
no_place basin cells object step place far =
    let few : length (map (content_in basin cells object step) places) ≡ 12 =
    length-map places (content_in basin cells object step) ∙ length-range_with_len 0 12 in
    get_or_past (map (content_in basin cells object step) places) place None (omega (arith, few, far))

-- a place has a slot of the object, or nothing stands in it
pub record HasSlot (basin : Draft) (object place : ℕ) : Type 0 where
  pub number : ℕ
  pub few : place < 12
  pub slot : slot_in_place basin.objects object place ≡ Some number

abbrev pub IsBare : Draft → ℕ → ℕ → Type 0
IsBare basin object place = (cells : Cells) (step : ℕ) → known (view_of basin cells object step) place ≡ None

slot_or_bare : (basin : Draft) (object place : ℕ) → place < 12 → (found : Option ℕ) → slot_in_place basin.objects object place ≡ found
    → HasSlot basin object place ⊎ IsBare basin object place
slot_or_bare basin object place few (Some number) slot = inl (record { number = number; few = few; slot = slot })
slot_or_bare basin object place few None none =
    inr (λ cells step. known-view basin cells object step place few
    ∙ ap (λ found. option_and_then cells (option_map (λ s. cell_at s step) found)) none)

pub has_or_bare : (basin : Draft) (object place : ℕ) → HasSlot basin object place ⊎ IsBare basin object place
has_or_bare basin object place = by (nat_lt place 12) refl
  where
    by : (test : Bool) → nat_lt place 12 ≡ test → HasSlot basin object place ⊎ IsBare basin object place
    by true is = slot_or_bare basin object place (grind (arith, nat_tests, is)) (slot_in_place basin.objects object place) refl
    by false is = inr (λ cells step. no_place basin cells object step place (grind (arith, nat_tests, is)))

-- ---- what others write

-- a put that another than the object writes
abbrev pub IsOthers : Draft → ℕ → Cells → ℕ → Asked → Type 0
IsOthers basin latest cells object put =
    IsWriting basin latest cells put × (is_same_object put.content.writer (ByObject (record { 0 = object })) ≡ false)

module _ (basin : Draft) (latest : ℕ) (log : Log) (event : Event) (object step : ℕ)
    (all : AllByRecursion (IsOthers basin latest (cells_of basin log) object) (written_by event)) where
  abbrev old : View
  old = view_of basin (cells_of basin log) object step

  abbrev new : View
  new = view_of basin (cells_of basin (event ∷ log)) object step

  found_passes : (place : ℕ) → HasSlot basin object place → (known new place ≡ known old place) ⊎ IsReplaced old new place
  found_passes place has =
      let cell : Cell = cell_at has.number step in
      let was = sees_at basin (cells_of basin log) object step place has.number has.few has.slot in
      let is = sees_at basin (cells_of basin (event ∷ log)) object step place has.number has.few has.slot in
      elim (last_found basin (IsOthers basin latest (cells_of basin log) object) (written_by event) cell all) [
        | inl none ↦ inl (is ∙ ap (λ found. option_or found (cells_of basin log cell)) none ∙ sym was)
        | inr found ↦ inr (record {
          content = found.put.content;
          is = is ∙ ap (λ put. option_or put (cells_of basin log cell)) found.is;
          other = found.passes.1;
          falls = λ before there. found.passes.0.falls before
              (linked basin log found.put.cell cell found.passes.0.slot found.shared ∙ sym was ∙ there);
        })
      ]

  at_place : (place : ℕ) → (known new place ≡ known old place) ⊎ IsReplaced old new place
  at_place place = elim (has_or_bare basin object place) [
    | inl has ↦ found_passes place has
    | inr bare ↦ inl (bare (cells_of basin (event ∷ log)) step ∙ sym (bare (cells_of basin log) step))
  ]

  pub passes : AreLater step (written_by event) → IsAfterOthers old new
  passes later = record { own = refl; past = past_stays basin log event object step later; slots = at_place }

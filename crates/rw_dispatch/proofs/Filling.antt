-- A list that is filled place by place.
use Rattle.rw_base.proofs.Common.{append-nil, ◌≡◌, ◌<◌, ◌≤◌, ◌+◌, ℕ, List, [], ◌∷◌, ◌++◌, drop, drop_more, map, set, length, sym, ap, ap₂, ◌∙◌, arith}
use Rattle.rw_base.proofs.Common.{append_assoc, get_or-map-range_with_len, range_with_len, set-append_seam, slice_index_or, map-range_with_len_more}
use Rattle.rw_base.proofs.Common.{length-map-range_with_len, IfSome, None, Option, Some, refl}
use Rattle.std.proofs.Math.ListN.{drop_of_length-le}
use Rattle.rw_base.specs.declared.number.SlotNo.{SlotNo}
use Rattle.rw_model.specs.Draft.{Draft, IsSlot}
use Rattle.rw_model.specs.Turn.{IsStep}
use Rattle.rw_model.proofs.Common.{Object, all_slots, known_in_place, slot_in_place}
use Rattle.rw_series.specs.Series.{IsSeriesOf, Series}
use Rattle.rw_run.specs.Log.{Cells}
use Rattle.rw_dispatch.specs.Seeing.{content_at_slot}

-- the first places are filled, the others are as before
abbrev pub filled : {X : Type 0} → (ℕ → X) → List X → ℕ → List X
filled f before count = map f (range_with_len 0 count) ++ drop count before

-- one more is filled
pub filled-more : {X : Type 0} (f : ℕ → X) (before : List X) (count : ℕ) (now : List X) (v : X) → count < length before → now ≡ filled f before count
    → v ≡ f count → set now count v ≡ filled f before (count + 1)
filled-more f before count now v near is same =
    let done = map f (range_with_len 0 count) in
    let rest = drop (count + 1) before in
    let from : 0 + count ≡ count = omega arith in
    ap₂ (λ xs n. set xs n v) (is ∙ ap (λ xs. done ++ xs) (drop_more before count v near)) (sym (length-map-range_with_len f 0 count))
    ∙ set-append_seam done _ rest v
    ∙ ap (λ x. done ++ x ∷ rest) same
    ∙ sym (append_assoc done (f count ∷ []) rest)
    ∙ ap (λ xs. xs ++ rest) (sym (map-range_with_len_more f 0 count count from))

-- all are filled
pub filled-all : {X : Type 0} (f : ℕ → X) (before now : List X) (count all : ℕ) → count ≡ all → length before ≡ all → now ≡ filled f before count
    → now ≡ map f (range_with_len 0 all)
filled-all f before now count all at many is =
    let none : drop count before ≡ [] = drop_of_length-le before (omega (arith, at, many)) in
    is ∙ ap (λ xs. map f (range_with_len 0 count) ++ xs) none ∙ append-nil _ ∙ ap (λ n. map f (range_with_len 0 n)) at

-- ---- the numbers of an object's slots

pub number_there : (objects : List Object) (object place : ℕ) (numbers : List (Option ℕ))
    → numbers ≡ map (slot_in_place objects object) (range_with_len 0 12) → place < 12
    → slice_index_or numbers place None ≡ slot_in_place objects object place
number_there objects object place numbers are near =
    let at : 0 + place ≡ place = omega arith in
    ap (λ ns. slice_index_or ns place None) are ∙ get_or-map-range_with_len (slot_in_place objects object) 0 12 place place None near at

pub number_known : (objects : List Object) (object place : ℕ) (number : Option ℕ) → number ≡ slot_in_place objects object place
    → IfSome number (IsSlot objects)
number_known objects object place None is = tt
number_known objects object place (Some number) is = known_in_place objects object place number (sym is)

-- a series of the basin has cells for them
pub number_within : (objects : List Object) (object place slots : ℕ) (number : Option ℕ) → number ≡ slot_in_place objects object place
    → length (all_slots objects) ≤ slots → IfSome number (λ slot. slot ≤ slots)
number_within objects object place slots None is many = tt
number_within objects object place slots (Some number) is many =
    let known = known_in_place objects object place number (sym is) in omega (arith, known.last, many)

-- it has columns for the basin's slots, and the basin's timesteps
pub column_there : (basin : Draft) (series : Series) (slot : ℕ) → IsSlot basin.objects slot → IsSeriesOf basin series
    → slot ≤ length series.columns
column_there basin series slot known made = omega (arith, known.last, made.slots, made.columns.all)

pub step_there : (basin : Draft) (series : Series) (step : ℕ) → IsStep basin step → IsSeriesOf basin series → step ≤ series.steps
step_there basin series step at made = omega (arith, at.last, made.steps)

pub enough_columns : (basin : Draft) (step : ℕ) (series row : Series) → IsStep basin step → IsSeriesOf basin series
    → (1 ≤ step → step ≤ series.steps → row.columns ≡ series.columns) → length (all_slots basin.objects) ≤ length row.columns
enough_columns basin step series row at made columns =
    let same = ap length (columns at.first (step_there basin series step at made)) in
    omega (arith, same, made.slots, made.columns.all)

-- what slots hold at a timestep of one series and at one of another, where that is the same
pub content_there : (one other : Cells) (at there : ℕ) (number : Option ℕ)
    → ((slot : SlotNo) → one (record { slot = slot; step = record { 0 = at } }) ≡ other (record { slot = slot; step = record { 0 = there } }))
    → content_at_slot one at number ≡ content_at_slot other there number
content_there one other at there None same = refl
content_there one other at there (Some number) same = same (record { 0 = number })

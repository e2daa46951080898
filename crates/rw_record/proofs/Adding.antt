-- Cells that are noted one after the other.
use Rattle.rw_record.proofs.Common.{AddsNotes, Asked, Cell, Cells, Draft, Held, [], append-nil, cell_at, cells_asked, cells_looked, cells_reached}
use Rattle.rw_record.proofs.Common.{cells_with, drop, drop_more, flat_map, flat_map-append, length, map, map-append, numbers_of, slice_index_or, take}
use Rattle.rw_record.proofs.Common.{take-append-drop, take_more, ℕ, ◌+◌, ◌<◌, ◌∷◌, IsSome, List, None, Option, Some, ap, append_assoc, refl, subst}
use Rattle.rw_record.proofs.Common.{arith, sym, with_noted, ◌++◌, ◌∙◌, ◌≡◌}
use Rattle.std.specs.Prelude.{Err, Ok, Result}
use Rattle.rw_base.specs.declared.number.SlotNo.{SlotNo}
use Rattle.rw_firing.specs.declared.look.Look.{Look}
use Rattle.rw_base.specs.declared.memory.NoMemory.{NoMemory}
use Rattle.rw_record.proofs.Noting.{joined_notes}

some_before : (cells : Cells) (done : List Cell) (start : Option (List Held)) → IsSome (with_noted cells done start) → IsSome start
some_before cells done None some = some
some_before cells done (Some noted) some = refl

module _ (cells : Cells) (done next : List Cell) (start middle new : Option (List Held)) (so_far : middle ≡ with_noted cells done start) where
  -- these are noted, and then those
  pub goes_on : new ≡ with_noted cells next middle → new ≡ with_noted cells (done ++ next) start
  goes_on noted = noted ∙ ap (with_noted cells next) so_far ∙ joined_notes cells done next start

  -- these are noted, and then memory wants for those
  pub fails : (rest : List Cell) (fault : NoMemory) → AddsNotes cells next middle new (Err fault)
      → AddsNotes cells (done ++ (next ++ rest)) start new (Err fault)
  fails rest fault adds = (
    some_before cells done start (subst IsSome so_far adds.0),
    record {
      first = done ++ adds.1.first;
      rest = adds.1.rest ++ rest;
      whole =
          ap (λ all. done ++ (all ++ rest)) adds.1.whole ∙ ap (λ all. done ++ all) (append_assoc adds.1.first adds.1.rest rest)
          ∙ sym (append_assoc done adds.1.first (adds.1.rest ++ rest));
      noted = adds.1.noted ∙ ap (with_noted cells adds.1.first) so_far ∙ joined_notes cells done adds.1.first start;
    },
  )

-- nothing is noted yet
pub none_yet : (cells : Cells) (start : Option (List Held)) → start ≡ with_noted cells [] start
none_yet cells None = refl
none_yet cells (Some noted) = refl

-- these are noted, and then those, or memory wants for them
pub then_all : (cells : Cells) (done next : List Cell) (start middle new : Option (List Held)) (result : Result (Unit {0}) NoMemory)
    → middle ≡ with_noted cells done start
    → AddsNotes cells next middle new result → AddsNotes cells (done ++ next) start new result
then_all cells done next start middle new (Ok all) so_far adds = goes_on cells done next start middle new so_far adds
then_all cells done next start middle new (Err fault) so_far adds =
    subst (λ rest. AddsNotes cells (done ++ rest) start new (Err fault)) (append-nil next)
    (fails cells done next start middle new so_far [] fault adds)

-- ---- in a loop, where each turn notes the cells of one thing

module _ {A : Type 0} (cells_in : List A → List Cell) (sums : (xs ys : List A) → cells_in (xs ++ ys) ≡ cells_in xs ++ cells_in ys)
    (cells : Cells) (all : List A) (at : ℕ) (one : A) (near : at < length all) (is : one ≡ slice_index_or all at one) (next : List Cell)
    (next_is : cells_in (one ∷ []) ≡ next)
    (start middle new : Option (List Held)) (so_far : middle ≡ with_noted cells (cells_in (take at all)) start) where
  pub turned : new ≡ with_noted cells next middle → new ≡ with_noted cells (cells_in (take (at + 1) all)) start
  turned noted =
      let more : cells_in (take at all) ++ next ≡ cells_in (take (at + 1) all) =
      ap (λ cell. cells_in (take at all) ++ cell) (sym next_is) ∙ sym (sums (take at all) (one ∷ []))
      ∙ ap cells_in (ap (λ last. take at all ++ last ∷ []) is ∙ sym (take_more all at one near)) in
      goes_on cells (cells_in (take at all)) next start middle new so_far noted
      ∙ ap (λ them. with_noted cells them start) more

  pub stopped : (result : Result (Unit {0}) NoMemory) (fault : NoMemory) → result ≡ Err fault → AddsNotes cells next middle new (Err fault)
      → AddsNotes cells (cells_in all) start new result
  stopped result fault err adds =
      let left : all ≡ take at all ++ (one ∷ [] ++ drop (at + 1) all) =
      sym (take-append-drop at all)
      ∙ ap (λ rest. take at all ++ rest) (drop_more all at one near ∙ ap (λ first. first ∷ drop (at + 1) all) (sym is)) in
      let whole : cells_in all ≡ cells_in (take at all) ++ (next ++ cells_in (drop (at + 1) all)) =
      ap cells_in left ∙ sums (take at all) (one ∷ [] ++ drop (at + 1) all)
      ∙ ap (λ rest. cells_in (take at all) ++ rest)
      (sums (one ∷ []) (drop (at + 1) all) ∙ ap (λ cell. cell ++ cells_in (drop (at + 1) all)) next_is) in
      subst (λ (end : Result (Unit {0}) NoMemory). AddsNotes cells (cells_in all) start new end) (sym err)
      (subst (λ them. AddsNotes cells them start new (Err fault)) (sym whole)
      (fails cells (cells_in (take at all)) next start middle new so_far (cells_in (drop (at + 1) all)) fault adds))

-- ---- which cells

pub looks_sum : (xs ys : List Look) → cells_looked (xs ++ ys) ≡ cells_looked xs ++ cells_looked ys
looks_sum xs ys = map-append (λ (look : Look). look.cell) xs ys

pub slots_sum : (step : ℕ) (xs ys : List SlotNo)
    → map (λ slot. cell_at slot step) (numbers_of (xs ++ ys))
    ≡ map (λ slot. cell_at slot step) (numbers_of xs) ++ map (λ slot. cell_at slot step) (numbers_of ys)
slots_sum step xs ys =
    ap (map (λ slot. cell_at slot step)) (map-append (λ (slot : SlotNo). slot.0) xs ys)
    ∙ map-append (λ slot. cell_at slot step) (numbers_of xs) (numbers_of ys)

pub reached_sum : (basin : Draft) (xs ys : List Asked) → cells_reached basin (xs ++ ys) ≡ cells_reached basin xs ++ cells_reached basin ys
reached_sum basin xs ys =
    ap (flat_map (cells_with basin)) (map-append (λ (put : Asked). put.cell) xs ys)
    ∙ flat_map-append (cells_with basin) (cells_asked xs) (cells_asked ys)

-- no put reaches none
pub none_reached : (basin : Draft) (cells : Cells) (puts : List Asked) (kept : Option (List Held)) → length puts ≡ 0
    → kept ≡ with_noted cells (cells_reached basin puts) kept
none_reached basin cells [] kept none = none_yet cells kept
none_reached basin cells (put ∷ puts) kept none = absurd (omega (arith, none))

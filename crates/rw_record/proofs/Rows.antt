-- The cells that slots have at a timestep, where they are noted.
use Rattle.rw_record.proofs.Common.{Bool, Cell, Cells, Held, List, None, Option, Some, [], and_parts, ap, cell_at, false, if◌then◌else◌}
use Rattle.rw_base.proofs.Common.{get_or}
use Rattle.std.proofs.lemmas.List.Folds.{list_all-append}
use Rattle.rw_record.proofs.Common.{Draft, drop, drop_more, is_noted, length, map, noted_after, option_map, refl, sym, take, take-append-drop}
use Rattle.rw_record.proofs.Common.{take_more, true}
use Rattle.rw_record.proofs.Common.{with_noted, ℕ, ◌&&◌, ◌+◌, ◌++◌, ◌<◌, ◌∙◌, ◌∷◌, ◌≡◌}
use Rattle.std.specs.List.{cons_option, filter_map, list_all}
use Rattle.std.proofs.lemmas.List.Elements.{filter_map-append}
use Rattle.rw_model.specs.Objects.{slot_in_place}
use Rattle.rw_run.specs.Dispatch.{cell_in, places}
use Rattle.rw_record.proofs.Common.{ap₂, arith, cells_with, group_of, inl, inr, is_among, nat_eq_equiv, nat_tests, or_cases, ◌==◌, ◌||◌, ◌⊎◌}
use Rattle.rw_model.specs.Draft.{IsSlot}
use Rattle.rw_model.specs.Links.{is_same_link, link_of}
use Rattle.rw_series.proofs.Sharing.{among_group, known_number}
use Rattle.rw_record.specs.Noted.{row_cells}

and_none : (a : Bool) → (a && false) ≡ false
and_none true = refl
and_none false = refl

pub row_sum : (step : ℕ) (xs ys : List (Option ℕ)) → row_cells step (xs ++ ys) ≡ row_cells step xs ++ row_cells step ys
row_sum step xs ys = filter_map-append (option_map (λ slot. cell_at slot step)) xs ys

-- what is noted stays as it is where all of these cells are
all_noted : (cells : Cells) (noted : List Held) (more : List Cell) → list_all (is_noted noted) more ≡ true → noted_after cells noted more ≡ noted
all_noted cells noted [] all = refl
all_noted cells noted (cell ∷ more) all =
    let both = and_parts (is_noted noted cell) (list_all (is_noted noted) more) all in
    ap (λ known. noted_after cells (if known then noted else noted ++ record { cell = cell; content = cells cell } ∷ []) more) both.0
    ∙ all_noted cells noted more both.1

pub row_known : (kept : Bool) (noted : List Held) (cells : Cells) (more : List Cell) → list_all (is_noted noted) more ≡ true
    → (if kept then Some noted else None) ≡ with_noted cells more (if kept then Some noted else None)
row_known true noted cells more all = ap Some (sym (all_noted cells noted more all))
row_known false noted cells more all = refl

-- ---- one thing after the other

module _ {A : Type 0} (cells_in : List A → List Cell) (sums : (xs ys : List A) → cells_in (xs ++ ys) ≡ cells_in xs ++ cells_in ys)
    (p : Cell → Bool) (all : List A) (at : ℕ) (blank : A) (near : at < length all) where
  abbrev one : List A
  one = get_or all at blank ∷ []

  with_one : list_all p (cells_in (take at all ++ one)) ≡ (list_all p (cells_in (take at all)) && list_all p (cells_in one))
  with_one = ap (list_all p) (sums (take at all) one) ∙ list_all-append p (cells_in (take at all)) (cells_in one)

  pub row_more : list_all p (cells_in (take at all)) ≡ true → list_all p (cells_in (get_or all at blank ∷ [])) ≡ true
      → list_all p (cells_in (take (at + 1) all)) ≡ true
  row_more before now =
      ap (λ these. list_all p (cells_in these)) (take_more all at blank near) ∙ with_one ∙ rw (before, now) refl

  pub row_ends : list_all p (cells_in (get_or all at blank ∷ [])) ≡ false → list_all p (cells_in all) ≡ false
  row_ends now =
      ap (λ these. list_all p (cells_in these))
      (sym (take-append-drop at all) ∙ ap (λ rest. take at all ++ rest) (drop_more all at blank near))
      ∙ ap (list_all p) (sums (take at all) (get_or all at blank ∷ drop (at + 1) all)
      ∙ ap (λ rest. cells_in (take at all) ++ rest) (sums one (drop (at + 1) all)))
      ∙ list_all-append p (cells_in (take at all)) (cells_in one ++ cells_in (drop (at + 1) all))
      ∙ ap (λ rest. list_all p (cells_in (take at all)) && rest)
      (list_all-append p (cells_in one) (cells_in (drop (at + 1) all)) ∙ rw now refl)
      ∙ and_none (list_all p (cells_in (take at all)))

-- ---- a cell, and those that share its value

all_has : (p : Cell → Bool) (step slot : ℕ) (slots : List ℕ) → is_among slot slots ≡ true
    → list_all p (map (λ other. cell_at other step) slots) ≡ true → p (cell_at slot step) ≡ true
all_has p step slot [] has all = absurd (cc)
all_has p step slot (first ∷ slots) has all = by (all_has p step slot slots) (or_cases (slot == first) (is_among slot slots) has)
  where
    by : (is_among slot slots ≡ true → list_all p (map (λ other. cell_at other step) slots) ≡ true → p (cell_at slot step) ≡ true)
        → ((slot == first) ≡ true) ⊎ (is_among slot slots ≡ true) → p (cell_at slot step) ≡ true
    by others (inl same) =
        let at : slot ≡ first = grind (arith, nat_tests, same) in
        ap (λ one. p (cell_at one step)) at ∙ (and_parts (p (cell_at first step)) (list_all p (map (λ other. cell_at other step) slots)) all).0
    by others (inr more) = others more (and_parts (p (cell_at first step)) (list_all p (map (λ other. cell_at other step) slots)) all).1

-- it is one of them
pub with_group : (basin : Draft) (cell : Cell) (p : Cell → Bool) → IsSlot basin.objects cell.slot.0
    → list_all p (map (λ slot. cell_at slot cell.step.0) (group_of basin.objects basin.links cell.slot.0)) ≡ true
    → list_all p (cells_with basin cell) ≡ true
with_group basin cell p known all =
    let own : is_among cell.slot.0 (group_of basin.objects basin.links cell.slot.0) ≡ true =
    among_group basin.objects basin.links cell.slot.0 cell.slot.0
    ∙ ap₂ (λ same there. (same || is_same_link (link_of basin.links cell.slot.0) (link_of basin.links cell.slot.0)) && there)
    (nat_eq_equiv.refl cell.slot.0) (known_number basin.objects cell.slot.0 known) in
    rw (all_has p cell.step.0 cell.slot.0 (group_of basin.objects basin.links cell.slot.0) own all) all

-- ---- the cells of an object

mapped : (h : Option ℕ → Option Cell) (g : ℕ → Option ℕ) (xs : List ℕ) → filter_map h (map g xs) ≡ filter_map (λ x. h (g x)) xs
mapped h g [] = refl
mapped h g (x ∷ xs) = ap (cons_option (h (g x))) (mapped h g xs)

-- a row has the slots of an object by place
pub row_is : (basin : Draft) (object step : ℕ)
    → row_cells step (map (slot_in_place basin.objects object) places) ≡ filter_map (cell_in basin object step) places
row_is basin object step = mapped (option_map (λ slot. cell_at slot step)) (slot_in_place basin.objects object) places

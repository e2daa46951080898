-- Putting back what cells held.
use Rattle.rw_record.proofs.Common.{Bool, Cell, Cells, Contains, Contains-append_right, Draft, Held, IsCell, IsSeriesOf, List, None, Series, Sets, []}
use Rattle.rw_record.proofs.Common.{ap, ap₂, arith, drop, false, false≢true, get_or_past, held, if◌then◌else◌, is_noted, is_same_cell, is_shared}
use Rattle.rw_record.proofs.Common.{length, nat_eq_equiv, nat_le, nat_tests, refl, subst, sym, true, ℕ, ◌&&◌, ◌-◌, ◌||◌, ◌∙◌, ◌∷◌, ◌≡◌, ◌≤◌}
use Rattle.std.proofs.lemmas.List.{drop_all}
use Rattle.rw_model.specs.Links.{is_same_link, link_of}
use Rattle.rw_series.specs.Cells.{is_kept}
use Rattle.rw_series.specs.Columns.{column_of}
use Rattle.rw_series.proofs.Sharing.{among_group, known_number}
use Rattle.rw_record.specs.Back.{AreCellsOf, is_cell}
use Rattle.rw_record.specs.Notes.{CanTakeBack}
use Rattle.rw_record.proofs.Cells.{first_of, same_cell}

pub IsCell-of : (basin : Draft) (cell : Cell) → is_cell basin cell ≡ true → IsCell basin cell
IsCell-of basin cell is = record {
  slot = record { first = grind (arith, nat_tests); last = grind (arith, nat_tests) };
  first = grind (arith, nat_tests);
  last = grind (arith, nat_tests);
}

shared_itself : (basin : Draft) (cell : Cell) → IsCell basin cell → is_shared basin cell cell ≡ true
shared_itself basin cell known =
    ap₂ (λ a b. a && b)
    (among_group basin.objects basin.links cell.slot.0 cell.slot.0
    ∙ ap₂ (λ same there. (same || is_same_link (link_of basin.links cell.slot.0) (link_of basin.links cell.slot.0)) && there)
    (nat_eq_equiv.refl cell.slot.0) (known_number basin.objects cell.slot.0 known.slot))
    (nat_eq_equiv.refl cell.step.0)

-- ---- what is no cell holds nothing

no_column : (columns : List ℕ) (slot : ℕ) → (nat_le 1 slot && nat_le slot (length columns)) ≡ false → (first : Bool) → nat_le 1 slot ≡ first
    → column_of columns slot ≡ 0
no_column columns slot none true first =
    let far : length columns ≤ slot - 1 = grind (arith, nat_tests, none, first) in rw first (get_or_past columns (slot - 1) 0 far)
no_column columns slot none false first = rw first refl

unkept : (basin : Draft) (series : Series) (cell : Cell) → IsSeriesOf basin series → is_cell basin cell ≡ false
    → (slot : Bool) → (nat_le 1 cell.slot.0 && nat_le cell.slot.0 (length series.columns)) ≡ slot
    → is_kept series.width series.steps (column_of series.columns cell.slot.0) cell.step.0 ≡ false
unkept basin series cell made none false slot =
    let column = no_column series.columns cell.slot.0 slot (nat_le 1 cell.slot.0) refl in grind (arith, nat_tests, column)
unkept basin series cell made none true slot = grind (arith, nat_tests, none, slot, made.steps, made.columns.all, made.slots)

holds_nothing : (basin : Draft) (series : Series) (cell : Cell) → IsSeriesOf basin series → is_cell basin cell ≡ false → held series cell ≡ None
holds_nothing basin series cell made none =
    rw (unkept basin series cell made none (nat_le 1 cell.slot.0 && nat_le cell.slot.0 (length series.columns)) refl) refl

pub cells_held : (basin : Draft) (series : Series) → IsSeriesOf basin series → AreCellsOf basin (held series)
cells_held basin series made = record { shared = made.shared; none = λ cell. holds_nothing basin series cell made }

-- ---- one cell

module _ (basin : Draft) (before : Cells) (one : Held) (items : List Held) (was : AreCellsOf basin before) where
  rest_held : (now : Series) → CanTakeBack before (held now) (one ∷ items) → (it : Held) → Contains items it → before it.cell ≡ it.content
  rest_held now can it has = can.held it (Contains-append_right (one ∷ []) items it has)

  -- it is put back
  pub one_put : (old new : Series) → IsCell basin one.cell → Sets basin one.cell one.content old new → CanTakeBack before (held old) (one ∷ items)
      → CanTakeBack before (held new) items
  one_put old new known sets can = record {
    held = rest_held old can;
    same = λ cell none. sets cell ∙ by cell none (is_shared basin one.cell cell) refl;
  }
    where
      apart : (cell : Cell) → is_shared basin one.cell cell ≡ false → (same : Bool) → is_same_cell cell one.cell ≡ same → same ≡ false
      apart cell none false same = refl
      apart cell none true same =
          absurd (false≢true (sym none ∙ ap (is_shared basin one.cell) (same_cell cell one.cell same) ∙ shared_itself basin one.cell known))

      by : (cell : Cell) → is_noted items cell ≡ false → (shared : Bool) → is_shared basin one.cell cell ≡ shared
          → (if shared then one.content else held old cell) ≡ before cell
      by cell none true shared = sym (can.held one (first_of one items)) ∙ was.shared one.cell cell known shared
      by cell none false shared =
          can.same cell (ap₂ (λ a b. a || b) (apart cell shared (is_same_cell cell one.cell) refl) none)

  -- it is none, and is passed over
  pub one_passed : (old : Series) → IsSeriesOf basin old → is_cell basin one.cell ≡ false → CanTakeBack before (held old) (one ∷ items)
      → CanTakeBack before (held old) items
  one_passed old made unknown can = record {
    held = rest_held old can;
    same = λ cell none. by cell none (is_same_cell cell one.cell) refl;
  }
    where
      by : (cell : Cell) → is_noted items cell ≡ false → (same : Bool) → is_same_cell cell one.cell ≡ same → held old cell ≡ before cell
      by cell none true same =
          let at = ap (is_cell basin) (same_cell cell one.cell same) ∙ unknown in
          holds_nothing basin old cell made at ∙ sym (was.none cell at)
      by cell none false apart = can.same cell (ap₂ (λ a b. a || b) apart none)

  pub one_back : (old new : Series) → IsSeriesOf basin old → (is_cell basin one.cell ≡ true → Sets basin one.cell one.content old new)
      → (is_cell basin one.cell ≡ false → new ≡ old) → CanTakeBack before (held old) (one ∷ items) → CanTakeBack before (held new) items
  one_back old new made put passed can = by (is_cell basin one.cell) refl
    where
      by : (known : Bool) → is_cell basin one.cell ≡ known → CanTakeBack before (held new) items
      by true known = one_put old new (IsCell-of basin one.cell known) (put known) can
      by false unknown = subst (λ series. CanTakeBack before (held series) items) (sym (passed unknown)) (one_passed old made unknown can)

pub all_back : (before : Cells) (now : Series) (items : List Held) (count : ℕ) → length items ≤ count
    → CanTakeBack before (held now) (drop count items)
    → (cell : Cell) → held now cell ≡ before cell
all_back before now items count past can cell =
    can.same cell (ap (λ left. is_noted left cell) (drop_all count items past))

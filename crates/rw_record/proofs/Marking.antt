-- Marks of cells.
use Rattle.rw_record.proofs.Common.{Bool, Cell, Cells, Held, IsTrue, List, [], ap, arith, cells_noted, false, false≢true, get_or-set_other}
use Rattle.rw_record.proofs.Common.{get_or-set_same, if◌then◌else◌, is_noted, is_same_cell, length, length-replicate}
use Rattle.rw_record.proofs.Common.{nat_tests, noted_after, refl, replicate, set, slice_index_or, subst, suc, sym, true, zero, ℕ, ◌*◌}
use Rattle.rw_record.proofs.Common.{◌+◌, ◌-◌, ◌<◌, ◌||◌, ◌∙◌, ◌∷◌, ◌≡◌, ◌≢◌, ◌≤◌}
use Rattle.std.specs.List.{IsDistinct}
use Rattle.std.proofs.lemmas.List.Elements.{All-from_recursion}
use Rattle.std.proofs.lemmas.List.Folds.{list_any_none}
use Rattle.std.proofs.lemmas.Map.Keys.{IsDistinct-head, IsDistinct-tail}
use Rattle.rw_series.specs.Cells.{position_of}
use Rattle.rw_series.proofs.Places.{Kept-of, same_slot, same_step, within}
use Rattle.rw_base.proofs.Common.{mul-le-mul_right, mul_comm}
use Rattle.rw_record.specs.Marks.{KeepsMarks, has_mark, is_cell_marked}
use Rattle.rw_record.proofs.Cells.{cells_equiv, same_cell}
use Rattle.rw_record.proofs.Noting.{noted_is, once}

pub near : (slots steps : ℕ) (marks : List Bool) (cell : Cell) → length marks ≡ slots * steps → has_mark slots steps cell ≡ true
    → position_of slots cell.slot.0 cell.step.0 < length marks
near slots steps marks cell many there =
    omega (arith, many, within slots steps cell.slot.0 cell.step.0 (Kept-of slots steps cell.slot.0 cell.step.0 there))

-- a cell is set, and no other changes
pub mark_set : (slots steps : ℕ) (marks : List Bool) (cell other : Cell) (mark : Bool) → length marks ≡ slots * steps
    → has_mark slots steps cell ≡ true → has_mark slots steps other ≡ true
    → is_cell_marked slots (set marks (position_of slots cell.slot.0 cell.step.0) mark) other
    ≡ (if is_same_cell cell other then mark else is_cell_marked slots marks other)
mark_set slots steps marks cell other mark many there too = by (is_same_cell cell other) refl
  where
    apart : is_same_cell cell other ≡ false → position_of slots other.slot.0 other.step.0 ≢ position_of slots cell.slot.0 cell.step.0
    apart none at =
        let one = Kept-of slots steps other.slot.0 other.step.0 too in
        let this = Kept-of slots steps cell.slot.0 cell.step.0 there in
        let slot = same_slot slots steps other.slot.0 other.step.0 cell.slot.0 cell.step.0 one this at in
        let step = same_step slots steps other.slot.0 other.step.0 cell.slot.0 cell.step.0 one this at in
        let same : is_same_cell cell other ≡ true = grind (arith, nat_tests, slot, step) in
        false≢true (sym none ∙ same)

    by : (same : Bool) → is_same_cell cell other ≡ same
        → is_cell_marked slots (set marks (position_of slots cell.slot.0 cell.step.0) mark) other
        ≡ (if same then mark else is_cell_marked slots marks other)
    by true same =
        subst (λ it. is_cell_marked slots (set marks (position_of slots cell.slot.0 cell.step.0) mark) it ≡ mark) (same_cell cell other same)
        (get_or-set_same marks (position_of slots cell.slot.0 cell.step.0) mark false (near slots steps marks cell many there))
    by false none =
        get_or-set_other marks (position_of slots cell.slot.0 cell.step.0) (position_of slots other.slot.0 other.step.0) mark false (apart none)

-- ---- with what is noted

none_marked : (n k : ℕ) → slice_index_or (replicate n false) k false ≡ false
none_marked zero k = refl
none_marked (suc n) zero = refl
none_marked (suc n) (suc k) = none_marked n k

pub no_marks : (slots steps : ℕ) → KeepsMarks slots steps (replicate (slots * steps) false) []
unfolding IsDistinct
no_marks slots steps = record {
  many = length-replicate (slots * steps) false;
  marked = λ cell there. none_marked (slots * steps) (position_of slots cell.slot.0 cell.step.0);
  once = tt;
}

-- a cell that isn't noted is noted and marked
pub one_added : (slots steps : ℕ) (marks new : List Bool) (cells : Cells) (noted : List Held) (cell : Cell) → KeepsMarks slots steps marks noted
    → is_noted noted cell ≡ false → length new ≡ slots * steps
    → ((other : Cell) → IsTrue (has_mark slots steps other)
    → is_cell_marked slots new other ≡ (if is_same_cell cell other then true else is_cell_marked slots marks other))
    → KeepsMarks slots steps new (noted_after cells noted (cell ∷ []))
one_added slots steps marks new cells noted cell keeps fresh many sets = record {
  many = many;
  marked = λ other there.
      sets other there ∙ ap (λ was. if is_same_cell cell other then true else was) (keeps.marked other there)
      ∙ either (is_same_cell cell other) (is_noted noted other)
      ∙ ap (λ same. is_noted noted other || (same || false)) (cells_equiv.symm cell other)
      ∙ sym (noted_is cells noted (cell ∷ []) other);
  once = once cells noted (cell ∷ []) keeps.once;
}
  where
    either : (same was : Bool) → (if same then true else was) ≡ (was || (same || false))
    either true true = refl
    either true false = refl
    either false true = refl
    either false false = refl

-- the first one is noted no more, and has no mark
pub first_taken : (slots steps : ℕ) (marks new : List Bool) (first : Held) (rest : List Held) → KeepsMarks slots steps marks (first ∷ rest)
    → length new ≡ slots * steps
    → ((other : Cell) → IsTrue (has_mark slots steps other)
    → is_cell_marked slots new other ≡ (if is_same_cell first.cell other then false else is_cell_marked slots marks other))
    → KeepsMarks slots steps new rest
first_taken slots steps marks new first rest keeps many sets = record {
  many = many;
  marked = λ other there.
      sets other there ∙ ap (λ was. if is_same_cell first.cell other then false else was) (keeps.marked other there)
      ∙ by other (is_same_cell first.cell other) refl;
  once = IsDistinct-tail is_same_cell first.cell (cells_noted rest) keeps.once;
}
  where
    fresh : is_noted rest first.cell ≡ false
    fresh =
        list_any_none (is_same_cell first.cell) (cells_noted rest) (All-from_recursion (λ cell. is_same_cell first.cell cell ≡ false)
        (cells_noted rest) (IsDistinct-head is_same_cell first.cell (cells_noted rest) keeps.once))

    by : (other : Cell) (same : Bool) → is_same_cell first.cell other ≡ same
        → (if same then false else (is_same_cell other first.cell || is_noted rest other)) ≡ is_noted rest other
    by other true same = sym (ap (is_noted rest) (sym (same_cell first.cell other same)) ∙ fresh)
    by other false apart = ap (λ same. same || is_noted rest other) (cells_equiv.symm other first.cell ∙ apart)

-- ---- the marks of one timestep

pub row_fits : (slots steps step all : ℕ) → all ≡ slots * steps → step ≤ steps → step * slots ≤ all
row_fits slots steps step all whole last =
    let rows : step * slots ≤ steps * slots = mul-le-mul_right slots last in omega (arith, rows, whole, mul_comm slots steps)

pub row_ends : (slots step : ℕ) → 1 ≤ step → (step - 1) * slots + slots ≡ step * slots
row_ends slots step first =
    let next : (step - 1) * slots + slots ≡ ((step - 1) + 1) * slots = omega arith in
    let at : (step - 1) + 1 ≡ step = omega (arith, first) in next ∙ ap (λ n. n * slots) at

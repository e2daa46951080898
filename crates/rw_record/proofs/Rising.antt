-- Cells in order.
use Rattle.rw_record.proofs.Common.{AreOnce, Bool, Cell, Held, List, [], arith, cells_noted, false, false≢true, inl, inr, is_same_cell}
use Rattle.rw_record.proofs.Common.{length, length-map, nat_tests, refl, slice_index_or, subst, suc, sym, true, ℕ, ◌<◌, ◌==◌, ◌∙◌, ◌∷◌, ◌≡◌, ◌≤◌}
use Rattle.rw_record.proofs.Common.{◌⊎◌}
use Rattle.rw_base.proofs.Common.{get_or-map, nat_cmp, nat_lt}
use Rattle.std.proofs.lemmas.Bool.{cases_order}
use Rattle.std.proofs.lemmas.Cmp.{nat_cmp_total, on_total, then_total}
use Rattle.std.proofs.lemmas.List.Elements.{All-from_recursion}
use Rattle.std.proofs.lemmas.List.Sorted.{IsPermutation-map, ranks_by, sorted_far}
use Rattle.std.proofs.lemmas.Map.Keys.{IsDistinct-IsPermutation, IsDistinct-head, IsDistinct-tail}
use Rattle.std.specs.List.Sorted.{IsPermutation, IsSortedByKey}
use Rattle.std.specs.Ordering.{is_lt, ordering_then}
use Rattle.rw_record.specs.Record.{AreRisingCells, IsBelow}
use Rattle.rw_record.proofs.Cells.{cells_equiv}

-- by slot, and then by timestep
abbrev pub place_of : Held → ℕ × ℕ
place_of held = (held.cell.slot.0, held.cell.step.0)

abbrev pub comes_first : Cell → Cell → Bool
comes_first one other = is_lt (ordering_then (nat_cmp one.slot.0 other.slot.0) (nat_cmp one.step.0 other.step.0))

below : (one other : Cell) → comes_first other one ≡ false → is_same_cell one other ≡ false → IsBelow one other
below one other none apart = by_slot (cases_order one.slot.0 other.slot.0)
  where
    by_step : one.slot.0 ≡ other.slot.0 → (one.step.0 ≡ other.step.0) ⊎ ((one.step.0 < other.step.0) ⊎ (other.step.0 < one.step.0))
        → IsBelow one other
    by_step slot (inl step) =
        let same : is_same_cell one other ≡ true = grind (arith, nat_tests, slot, step) in absurd (false≢true (sym apart ∙ same))
    by_step slot (inr (inl less)) = inr (slot, less)
    by_step slot (inr (inr more)) =
        let level : nat_lt other.slot.0 one.slot.0 ≡ false = grind (arith, nat_tests, slot) in
        let equal : (other.slot.0 == one.slot.0) ≡ true = grind (arith, nat_tests, slot) in
        let earlier : nat_lt other.step.0 one.step.0 ≡ true = grind (arith, nat_tests, more) in
        absurd (false≢true (sym none ∙ rw (level, equal, earlier) refl))

    by_slot : (one.slot.0 ≡ other.slot.0) ⊎ ((one.slot.0 < other.slot.0) ⊎ (other.slot.0 < one.slot.0)) → IsBelow one other
    by_slot (inl slot) = by_step slot (cases_order one.step.0 other.step.0)
    by_slot (inr (inl less)) = inl less
    by_slot (inr (inr more)) =
        let lower : nat_lt other.slot.0 one.slot.0 ≡ true = grind (arith, nat_tests, more) in
        absurd (false≢true (sym none ∙ rw lower refl))

-- none comes before an earlier one
abbrev AreInOrder : List Held → Type 0
AreInOrder items =
    (i j : ℕ) (d : Held) → i ≤ j → j < length items → comes_first (slice_index_or items j d).cell (slice_index_or items i d).cell ≡ false

in_order : (items : List Held) → AreOnce items → AreInOrder items → AreRisingCells items
in_order [] once far = tt
in_order (first ∷ items) once far = (
  λ k d near.
      let there : is_same_cell first.cell (slice_index_or items k d).cell ≡ false =
      subst (λ cell. is_same_cell first.cell cell ≡ false) (get_or-map (λ (one : Held). one.cell) items k d first.cell near)
      (All-from_recursion (λ cell. is_same_cell first.cell cell ≡ false) (cells_noted items)
      (IsDistinct-head is_same_cell first.cell (cells_noted items) once) k first.cell
      (omega (arith, near, length-map items (λ (one : Held). one.cell)))) in
      below first.cell (slice_index_or items k d).cell (far 0 (suc k) d (omega arith) (omega (arith, near))) there,
  in_order items (IsDistinct-tail is_same_cell first.cell (cells_noted items) once)
      (λ i j d low high. far (suc i) (suc j) d (omega (arith, low)) (omega (arith, high))),
)

pub sorted_once : (items sorted : List Held) → IsPermutation items sorted → AreOnce items → AreOnce sorted
sorted_once items sorted moved once =
    IsDistinct-IsPermutation is_same_cell cells_equiv.symm (cells_noted items) (cells_noted sorted)
    (IsPermutation-map (λ (one : Held). one.cell) items sorted moved) once

pub rising : (items sorted : List Held) → IsPermutation items sorted → AreOnce items
    → IsSortedByKey place_of (λ one other. ordering_then (nat_cmp one.0 other.0) (nat_cmp one.1 other.1)) sorted → AreRisingCells sorted
rising items sorted moved once up =
    in_order sorted (sorted_once items sorted moved once)
    (sorted_far (λ one other. comes_first one.cell other.cell)
    (ranks_by (then_total (on_total (λ (pair : ℕ × ℕ). pair.0) nat_cmp_total) (on_total (λ (pair : ℕ × ℕ). pair.1) nat_cmp_total))
    place_of) sorted up)

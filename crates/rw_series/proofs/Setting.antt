-- A cell is set for all slots that carry one value with its slot.
use Rattle.rw_base.proofs.Common.{range_with_len, ◌≡◌, ◌⊎◌, inl, inr, ℕ, zero, suc, ◌+◌, ◌-◌, ◌<◌, ◌≤◌, ◌==◌, ◌&&◌, nat_le, nat_lt, Bool, true, false}
use Rattle.rw_base.proofs.Common.{List, [], ◌∷◌, length, subst, refl, sym, ap, ◌∙◌, arith, slice_index_or, nat_tests, get_or_past, get_or-map}
use Rattle.rw_base.proofs.Common.{length-map, and_parts, All, zero-lt-suc, list_any_at, nat_eq_equiv}
use Rattle.rw_base.specs.declared.number.Cell.{Cell}
use Rattle.rw_base.specs.declared.number.SlotNo.{SlotNo}
use Rattle.rw_base.proofs.Lists.{and_second_fails}
use Rattle.rw_model.proofs.Common.{all_slots, Draft, numbers_of, is_together, is_among, slot_numbers, group_of}
use Rattle.rw_series.specs.Cells.{is_kept}
use Rattle.rw_series.specs.Columns.{column_of}
use Rattle.rw_series.specs.Series.{Series, IsCell, is_shared, IsSeriesOf}
use Rattle.rw_series.proofs.Sharing.{known_number, among_group}

-- ---- no slot, no column

no_column : (columns : List ℕ) (slot : ℕ) → length columns < slot → (some : Bool) → nat_le 1 slot ≡ some → column_of columns slot ≡ 0
no_column columns slot past true some = let far : length columns ≤ slot - 1 = omega (arith, past) in rw some (get_or_past columns (slot - 1) 0 far)
no_column columns slot past false none = rw none refl

column_zero : (columns : List ℕ) (slot : ℕ) → nat_le 1 slot ≡ false → column_of columns slot ≡ 0
column_zero columns slot none = rw none refl

unknown_number : (first count slot : ℕ) → (slot < first) ⊎ (first + count ≤ slot) → is_among slot (range_with_len first count) ≡ false
unknown_number first zero slot outside = refl
unknown_number first (suc count) slot outside =
    let apart : (slot == first) ≡ false = outside_first first count slot outside in
    rw apart (unknown_number (first + 1) count slot (outside_next first count slot outside))
  where
    outside_first : (first count slot : ℕ) → (slot < first) ⊎ (first + suc count ≤ slot) → (slot == first) ≡ false
    outside_first first count slot (inl below) = grind (arith, nat_tests, below)
    outside_first first count slot (inr above) = grind (arith, nat_tests, above)

    outside_next : (first count slot : ℕ) → (slot < first) ⊎ (first + suc count ≤ slot) → (slot < first + 1) ⊎ (first + 1 + count ≤ slot)
    outside_next first count slot (inl below) = inl (omega (arith, below))
    outside_next first count slot (inr above) = inr (omega (arith, above))

and_known : (a b : Bool) → b ≡ true → a ≡ (a && b)
and_known true b is = sym is
and_known false b is = refl

module _ (basin : Draft) (series : Series) (cell : Cell) (made : IsSeriesOf basin series) (known : IsCell basin cell) where
  last : cell.slot.0 ≤ series.slots
  last = omega (arith, known.slot.last, made.slots)

  one : 1 ≤ column_of series.columns cell.slot.0
  one = made.columns.first cell.slot.0 known.slot.first last

  pub column_kept : is_kept series.width series.steps (column_of series.columns cell.slot.0) cell.step.0 ≡ true
  column_kept =
      let most = made.columns.last cell.slot.0 known.slot.first last in
      grind (arith, nat_tests, one, most, known.first, known.last, made.steps)

  test_known : (other : ℕ) → 1 ≤ other → other ≤ series.slots
      → (column_of series.columns other == column_of series.columns cell.slot.0) ≡ is_among other (group_of basin.objects basin.links cell.slot.0)
  test_known other first_too last_too =
      made.columns.alike cell.slot.0 other known.slot.first last first_too last_too
      ∙ and_known (is_together basin.links cell.slot.0 other) (is_among other (slot_numbers basin.objects))
      (known_number basin.objects other (record { first = first_too; last = omega (arith, last_too, made.slots) }))
      ∙ sym (among_group basin.objects basin.links cell.slot.0 other)

  test_unknown : (other : ℕ) → column_of series.columns other ≡ 0 → is_among other (slot_numbers basin.objects) ≡ false
      → (column_of series.columns other == column_of series.columns cell.slot.0) ≡ is_among other (group_of basin.objects basin.links cell.slot.0)
  test_unknown other zero_column none =
      let apart : (column_of series.columns other == column_of series.columns cell.slot.0) ≡ false = grind (arith, nat_tests, one, zero_column) in
      apart ∙ sym (and_second_fails (is_together basin.links cell.slot.0 other) (is_among other (slot_numbers basin.objects)) none)
      ∙ sym (among_group basin.objects basin.links cell.slot.0 other)

  test_at : (other : ℕ) → (first_too : Bool) → nat_le 1 other ≡ first_too → (last_too : Bool) → nat_le other series.slots ≡ last_too
      → (column_of series.columns other == column_of series.columns cell.slot.0) ≡ is_among other (group_of basin.objects basin.links cell.slot.0)
  test_at other true first true last = test_known other (grind (arith, nat_tests, first)) (grind (arith, nat_tests, last))
  test_at other false none last_too last =
      let below : other < 1 = grind (arith, nat_tests, none) in
      test_unknown other (column_zero series.columns other none) (unknown_number 1 (length (all_slots basin.objects)) other (inl below))
  test_at other true first false none =
      let past : series.slots < other = grind (arith, nat_tests, none) in
      let far : length series.columns < other = omega (arith, past, made.columns.all) in
      let above : 1 + length (all_slots basin.objects) ≤ other = omega (arith, past, made.slots) in
      test_unknown other (no_column series.columns other far true first) (unknown_number 1 (length (all_slots basin.objects)) other (inr above))

  pub shared_test : (other : Cell) → (column_of series.columns other.slot.0 == column_of series.columns cell.slot.0 && other.step.0 == cell.step.0)
      ≡ is_shared basin cell other
  shared_test other =
      ap (λ test. test && other.step.0 == cell.step.0) (test_at other.slot.0 (nat_le 1 other.slot.0) refl (nat_le other.slot.0 series.slots) refl)

-- ---- one of a group

pub among_at : (group : List SlotNo) (k : ℕ) (d : SlotNo) → k < length group → is_among (slice_index_or group k d).0 (numbers_of group) ≡ true
among_at group k d near =
    let slot = slice_index_or group k d in
    let all : k < length (numbers_of group) = omega (arith, near, length-map group (λ (s : SlotNo). s.0)) in
    let here : slice_index_or (numbers_of group) k 0 ≡ slot.0 = get_or-map (λ (s : SlotNo). s.0) group k d 0 near in
    list_any_at (λ other. slot.0 == other) (numbers_of group) k 0 all (ap (λ other. slot.0 == other) here ∙ nat_eq_equiv.refl slot.0)

pub none_among : (group : List SlotNo) (before slot : ℕ) → slot ≤ before → All (λ (s : SlotNo). before < s.0) group
    → is_among slot (numbers_of group) ≡ false
none_among [] before slot low above = refl
none_among (first ∷ rest) before slot low above =
    let over : before < first.0 = above 0 first (zero-lt-suc (length rest)) in
    let apart : (slot == first.0) ≡ false = grind (arith, nat_tests, over, low) in
    rw apart (none_among rest before slot low (λ k d near. above (suc k) d (omega (arith, near))))

fresh_step : (group : List SlotNo) (before count k : ℕ) (d : SlotNo) → ((k : ℕ) → k < count → before < (slice_index_or group k d).0)
    → before < (slice_index_or group count d).0
    → k < count + 1 → (old : Bool) → nat_lt k count ≡ old → before < (slice_index_or group k d).0
fresh_step group before count k d all one near true old = all k (grind (arith, nat_tests, old))
fresh_step group before count k d all one near false new =
    let at : count ≡ k = grind (arith, nat_tests, new, near) in subst (λ n. before < (slice_index_or group n d).0) at one

pub one-fresher : (group : List SlotNo) (before count : ℕ) (d : SlotNo) → ((k : ℕ) → k < count → before < (slice_index_or group k d).0)
    → before < (slice_index_or group count d).0
    → (k : ℕ) → k < count + 1 → before < (slice_index_or group k d).0
one-fresher group before count d all one k near = fresh_step group before count k d all one near (nat_lt k count) refl

module _ (basin : Draft) (count : ℕ) (group : List SlotNo) (are : numbers_of group ≡ group_of basin.objects basin.links (count + 1)) where
  pub all_alone : count + 1 ≤ length (all_slots basin.objects) → All (λ (s : SlotNo). count < s.0) group → (slot : ℕ) → 1 ≤ slot → slot ≤ count
      → is_together basin.links (count + 1) slot ≡ false
  all_alone few above slot first last =
      and_known (is_together basin.links (count + 1) slot) (is_among slot (slot_numbers basin.objects))
      (known_number basin.objects slot (record { first = first; last = omega (arith, last, few) }))
      ∙ sym (among_group basin.objects basin.links (count + 1) slot)
      ∙ ap (is_among slot) (sym are)
      ∙ none_among group count slot last above

  pub together_with : (slot : ℕ) → is_among slot (numbers_of group) ≡ true
      → (is_together basin.links (count + 1) slot ≡ true) × (is_among slot (slot_numbers basin.objects) ≡ true)
  together_with slot among =
      and_parts _ _ (sym (among_group basin.objects basin.links (count + 1) slot) ∙ ap (is_among slot) (sym are) ∙ among)

number_first : (first count slot : ℕ) → is_among slot (range_with_len first count) ≡ true → (some : Bool) → nat_le first slot ≡ some → first ≤ slot
number_first first count slot among true some = grind (arith, nat_tests, some)
number_first first count slot among false none =
    let below : slot < first = grind (arith, nat_tests, none) in
    let not_there = unknown_number first count slot (inl below) in absurd (cc)

pub from_first : (count slot : ℕ) → is_among slot (range_with_len 1 count) ≡ true → 1 ≤ slot
from_first count slot among = number_first 1 count slot among (nat_le 1 slot) refl

-- The columns of slots.
use Rattle.rw_base.proofs.Common.{◌≡◌, inl, inr, ℕ, ◌+◌, ◌-◌, ◌<◌, ◌≤◌, ◌==◌, ◌||◌, nat_le, Bool, true, false, List, [], ◌∷◌, ◌++◌, length, max, refl}
use Rattle.rw_base.proofs.Common.{sym, ap, ap₂, ◌∙◌, arith, slice_index_or, nat_eq_equiv, nat_tests, get_or-append_seam, length_push}
use Rattle.rw_base.proofs.Common.{get_or_append_left}
use Rattle.rw_model.proofs.Common.{Draft, link_of, is_same_link, is_together}
use Rattle.rw_series.specs.Columns.{column_of, AreColumns, IsColumnFor}
use Rattle.rw_series.proofs.Sharing.{same_turned, together_alike, together_turned}

-- ---- together, from either side

together_self : (links : List (List ℕ)) (slot : ℕ) → is_together links slot slot ≡ true
together_self links slot = ap (λ same. same || is_same_link (link_of links slot) (link_of links slot)) (nat_eq_equiv.refl slot)

-- ---- one more column

from_one : (columns : List ℕ) (slot : ℕ) → 1 ≤ slot → column_of columns slot ≡ slice_index_or columns (slot - 1) 0
from_one columns slot first = let test : nat_le 1 slot ≡ true = grind (arith, nat_tests) in rw test refl

old_column : (columns : List ℕ) (column slot : ℕ) → 1 ≤ slot → slot ≤ length columns
    → column_of (columns ++ column ∷ []) slot ≡ column_of columns slot
old_column columns column slot first last =
    let near : slot - 1 < length columns = omega (arith, first, last) in
    from_one (columns ++ column ∷ []) slot first ∙ get_or_append_left columns (column ∷ []) 0 (slot - 1) near ∙ sym (from_one columns slot first)

new_column : (columns : List ℕ) (column slot : ℕ) → slot ≡ length columns + 1 → column_of (columns ++ column ∷ []) slot ≡ column
new_column columns column slot at =
    let first : 1 ≤ slot = omega (arith, at) in
    let here : slot - 1 ≡ length columns = omega (arith, at) in
    from_one (columns ++ column ∷ []) slot first ∙ ap (λ k. slice_index_or (columns ++ column ∷ []) k 0) here ∙ get_or-append_seam columns column [] 0

module _ (basin : Draft) (count width : ℕ) (columns : List ℕ) (column : ℕ) (are : AreColumns basin count width columns) where
  between : IsColumnFor basin count width columns column → (1 ≤ column) × (column ≤ width + 1)
  between (inl fresh) = (omega (arith, fresh.next), omega (arith, fresh.next))
  between (inr shared) = (
    omega (arith, shared.same, are.first shared.slot shared.first shared.last),
    omega (arith, shared.same, are.last shared.slot shared.first shared.last),
  )

  beside : IsColumnFor basin count width columns column → (one : ℕ) → 1 ≤ one → one ≤ count
      → (column == column_of columns one) ≡ is_together basin.links one (count + 1)
  beside (inl fresh) one first last =
      let above : column_of columns one < column = omega (arith, fresh.next, are.last one first last) in
      let apart : (column == column_of columns one) ≡ false = grind (arith, nat_tests, above) in
      apart ∙ sym (fresh.alone one first last) ∙ together_turned basin.links (count + 1) one
  beside (inr shared) one first last =
      ap (λ c. c == column_of columns one) shared.same
      ∙ are.alike one shared.slot first last shared.first shared.last
      ∙ together_alike basin.links one shared.slot (count + 1) (shared.slot == (count + 1)) refl
      (together_turned basin.links shared.slot (count + 1) ∙ shared.together)

  module _ (for : IsColumnFor basin count width columns column) where
    at_old : (slot : ℕ) → 1 ≤ slot → slot ≤ count → column_of (columns ++ column ∷ []) slot ≡ column_of columns slot
    at_old slot first last = old_column columns column slot first (omega (arith, last, are.all))

    at_new : (slot : ℕ) → slot ≡ count + 1 → column_of (columns ++ column ∷ []) slot ≡ column
    at_new slot at = new_column columns column slot (omega (arith, at, are.all))

    firsts : (slot : ℕ) → 1 ≤ slot → slot ≤ count + 1 → (old : Bool) → nat_le slot count ≡ old → 1 ≤ column_of (columns ++ column ∷ []) slot
    firsts slot first last true old = let near : slot ≤ count =
        grind (arith, nat_tests) in omega (arith, at_old slot first near, are.first slot first near)
    firsts slot first last false new = let at : slot ≡ count + 1 = grind (arith, nat_tests) in omega (arith, at_new slot at, (between for).0)

    lasts : (slot : ℕ) → 1 ≤ slot → slot ≤ count + 1 → (old : Bool) → nat_le slot count ≡ old
        → column_of (columns ++ column ∷ []) slot ≤ max width column
    lasts slot first last true old = let near : slot ≤ count =
        grind (arith, nat_tests) in omega (arith, at_old slot first near, are.last slot first near)
    lasts slot first last false new = let at : slot ≡ count + 1 = grind (arith, nat_tests) in omega (arith, at_new slot at)

    pairs : (one other : ℕ) → 1 ≤ one → one ≤ count + 1 → 1 ≤ other → other ≤ count + 1 → (old : Bool) → nat_le one count ≡ old → (old_too : Bool)
        → nat_le other count ≡ old_too
        → (column_of (columns ++ column ∷ []) other == column_of (columns ++ column ∷ []) one) ≡ is_together basin.links one other
    pairs one other first last first_too last_too true old true old_too =
        let near : one ≤ count = grind (arith, nat_tests, old) in
        let near_too : other ≤ count = grind (arith, nat_tests, old_too) in
        ap₂ (λ a b. a == b) (at_old other first_too near_too) (at_old one first near) ∙ are.alike one other first near first_too near_too
    pairs one other first last first_too last_too true old false new =
        let near : one ≤ count = grind (arith, nat_tests, old) in
        let at : other ≡ count + 1 = grind (arith, nat_tests, new, last_too) in
        ap₂ (λ a b. a == b) (at_new other at) (at_old one first near) ∙ beside for one first near ∙ ap (is_together basin.links one) (sym at)
    pairs one other first last first_too last_too false new true old =
        let at : one ≡ count + 1 = grind (arith, nat_tests, new, last) in
        let near : other ≤ count = grind (arith, nat_tests, old) in
        ap₂ (λ a b. a == b) (at_old other first_too near) (at_new one at) ∙ same_turned (column_of columns other) column
        ∙ beside for other first_too near
        ∙ together_turned basin.links other (count + 1) ∙ ap (λ s. is_together basin.links s other) (sym at)
    pairs one other first last first_too last_too false new false new_too =
        let at : one ≡ count + 1 = grind (arith, nat_tests, new, last) in
        let at_too : other ≡ count + 1 = grind (arith, nat_tests, new_too, last_too) in
        ap₂ (λ a b. a == b) (at_new other at_too) (at_new one at) ∙ nat_eq_equiv.refl column ∙ sym (together_self basin.links (count + 1))
        ∙ ap₂ (is_together basin.links) (sym at) (sym at_too)

    pub columns-more : AreColumns basin (count + 1) (max width column) (columns ++ column ∷ [])
    columns-more = record {
      all = omega (arith, are.all, length_push columns column);
      few = omega (arith, are.few, (between for).1);
      first = λ slot first last. firsts slot first last (nat_le slot count) refl;
      last = λ slot first last. lasts slot first last (nat_le slot count) refl;
      alike =
          λ one other first last first_too last_too. pairs one other first last first_too last_too (nat_le one count) refl (nat_le other count) refl;
    }

-- Cells that are picked by their places, and rise.
use Rattle.rw_record.proofs.Common.{AreOnce, Cell, Contains, Contains-append_right, Contains-from_any, Contains-push_cases, Held, IsDistinct-push, List}
use Rattle.rw_record.proofs.Common.{Option, None, Some, [], ap, arith, cells_noted, false, false≢true, get_or_from_slice_get, inl, inr, is_noted}
use Rattle.rw_record.proofs.Common.{is_same_cell, length, length-map, map, nat_tests, refl, slice_get, slice_get-get_or, slice_get_within}
use Rattle.rw_record.proofs.Common.{subst, suc, sym, true, Bool, ℕ, ◌++◌, ◌+◌, ◌<◌, ◌↔◌, ◌∙◌, ◌∷◌, ◌≡◌, ◌≤◌, ◌⊎◌}
use Rattle.std.proofs.Math.ListN.{length-append}
use Rattle.std.proofs.lemmas.List.Elements.{All-contains, All-from_recursion, All-push, filter_map-append}
use Rattle.std.proofs.lemmas.List.Elements.{Contains-get_or}
use Rattle.std.proofs.lemmas.List.FromFn.{fill_by_all, get_or-range_with_len, length-range_with_len}
use Rattle.std.proofs.lemmas.List.Sorted.{Contains-permutation, IsPermutation-map, IsPermutation-sym, length_permutation}
use Rattle.std.proofs.lemmas.Map.Keys.{IsDistinct-head, IsDistinct-tail}
use Rattle.std.proofs.lemmas.Map.Made.{length-le_from_is_member}
use Rattle.std.specs.List.{AllByRecursion, IsDistinct, cons_option, range_with_len}
use Rattle.std.specs.List.Sorted.{IsPermutation, IsSortedByKey}
use Rattle.std.specs.Ordering.{is_lt, ordering_then}
use Rattle.rw_base.proofs.Common.{get_or, get_or-map, nat_cmp, zero}
use Rattle.rw_record.proofs.Rising.{place_of, rising}
use Rattle.std.specs.Prelude.{Err, IfOk, Ok, Result}
use Rattle.rw_record.specs.InOrder.{RisesAbove, IsBelowOrSame, RisesAll, RisesTo, picked_out, rank_in, rank_of}
use Rattle.rw_record.specs.Record.{AreRisingCells, IsBelow}
use Rattle.rw_record.proofs.Cells.{cells_equiv, first_of, first_or, map_from, map_of, same_cell}
use Rattle.rw_record.proofs.Noting.{noted_from, noted_of}

-- ---- the order of cells

below_at_most : (a b : Cell) → IsBelow a b → IsBelowOrSame a b
below_at_most a b (inl slot) = inl slot
below_at_most a b (inr (slot, step)) = inr (slot, omega (arith, step))

itself : (a : Cell) → IsBelowOrSame a a
itself a = inr (refl, omega arith)

at_most_both : (a b c : Cell) → IsBelowOrSame a b → IsBelowOrSame b c → IsBelowOrSame a c
at_most_both a b c (inl one) (inl other) = inl (omega (arith, one, other))
at_most_both a b c (inl one) (inr (slot, step)) = inl (omega (arith, one, slot))
at_most_both a b c (inr (slot, step)) (inl other) = inl (omega (arith, other, slot))
at_most_both a b c (inr (slot, step)) (inr (same, later)) = inr (slot ∙ same, omega (arith, step, later))

-- ---- each of them is one of all

at_place : (items : List Held) (place : ℕ) (one : Held) → slice_get items place ≡ Some one → Contains items one
at_place items place one there = (place, slice_get_within items place one there, get_or_from_slice_get items place one one there)

one_from : (items more : List Held) (place : ℕ) (one : Held) → (Contains more one → Contains items one) → (found : Option Held)
    → slice_get items place ≡ found → Contains (cons_option found more) one → Contains items one
one_from items more place one rest None there has = rest has
one_from items more place one rest (Some it) there has = by (first_or it more one has)
  where
    by : (it ≡ one) ⊎ Contains more one → Contains items one
    by (inl same) = subst (Contains items) same (at_place items place it there)
    by (inr later) = rest later

pub picked_from : (items : List Held) (order : List ℕ) (one : Held) → Contains (picked_out items order) one → Contains items one
picked_from items [] one has = absurd (omega (arith, has.1))
picked_from items (place ∷ order) one has =
    one_from items (picked_out items order) place one (picked_from items order one) (slice_get items place) refl has

pub picked_push : (items : List Held) (order : List ℕ) (place : ℕ)
    → picked_out items (order ++ place ∷ []) ≡ picked_out items order ++ picked_out items (place ∷ [])
picked_push items order place = filter_map-append (slice_get items) order (place ∷ [])

pub picked_there : (items : List Held) (order : List ℕ) (place : ℕ) (one : Held) → slice_get items place ≡ Some one
    → picked_out items (order ++ place ∷ []) ≡ picked_out items order ++ one ∷ []
picked_there items order place one there =
    picked_push items order place ∙ ap (λ found. picked_out items order ++ cons_option found []) there

one_few : {A : Type 0} (found : Option A) (more : List A) (count : ℕ) → length more ≤ count → length (cons_option found more) ≤ count + 1
one_few None more count few = omega (arith, few)
one_few (Some one) more count few = omega (arith, few)

pub few_picked : (items : List Held) (order : List ℕ) → length (picked_out items order) ≤ length order
few_picked items [] = omega arith
few_picked items (place ∷ order) =
    let few = one_few (slice_get items place) (picked_out items order) (length order) (few_picked items order) in omega (arith, few)

-- ---- cells that rise stand there once

not_same : (a b : Cell) → IsBelow a b → is_same_cell a b ≡ false
not_same a b (inl slot) = grind (arith, nat_tests, slot)
not_same a b (inr (slot, step)) = grind (arith, nat_tests, step)

all_apart : (cell : Cell) (rest : List Held) → ((later : Held) → Contains rest later → IsBelow cell later.cell)
    → AllByRecursion (λ other. is_same_cell cell other ≡ false) (cells_noted rest)
all_apart cell [] below = tt
all_apart cell (one ∷ rest) below = (
  not_same cell one.cell (below one (first_of one rest)),
  all_apart cell rest (λ it has. below it (Contains-append_right (one ∷ []) rest it has)),
)

rising_once : (items : List Held) → AreRisingCells items → AreOnce items
unfolding IsDistinct
rising_once [] up = tt
rising_once (first ∷ rest) up = (
  all_apart first.cell rest (λ later has. All-contains (λ (later : Held). IsBelow first.cell later.cell) rest later up.0 has),
  rising_once rest up.1,
)

-- ---- as many of them as there are are all

one_cell : (items : List Held) → AreOnce items → (a b : Held) → Contains items a → Contains items b → a.cell ≡ b.cell → a ≡ b
one_cell [] once a b in_a in_b same = absurd (omega (arith, in_a.1))
one_cell (first ∷ rest) once a b in_a in_b same =
    by (one_cell rest (IsDistinct-tail is_same_cell first.cell (cells_noted rest) once) a b) (first_or first rest a in_a) (first_or first rest b in_b)
  where
    apart : (it : Held) → Contains rest it → first.cell ≡ it.cell → ⊥
    apart it has is =
        false≢true (sym (All-contains (λ cell. is_same_cell first.cell cell ≡ false) (cells_noted rest) it.cell
        (All-from_recursion (λ cell. is_same_cell first.cell cell ≡ false) (cells_noted rest)
        (IsDistinct-head is_same_cell first.cell (cells_noted rest) once)) (map_of (λ (held : Held). held.cell) rest it has))
        ∙ ap (is_same_cell first.cell) (sym is) ∙ cells_equiv.refl first.cell)

    by : (Contains rest a → Contains rest b → a.cell ≡ b.cell → a ≡ b) → (first ≡ a) ⊎ Contains rest a → (first ≡ b) ⊎ Contains rest b → a ≡ b
    by again (inl is_a) (inl is_b) = sym is_a ∙ is_b
    by again (inl is_a) (inr has_b) = absurd (apart b has_b (ap (λ (held : Held). held.cell) is_a ∙ same))
    by again (inr has_a) (inl is_b) = absurd (apart a has_a (ap (λ (held : Held). held.cell) is_b ∙ sym same))
    by again (inr has_a) (inr has_b) = again has_a has_b same

all_there : (items some : List Held) → AreOnce items → AreOnce some → length some ≡ length items
    → ((one : Held) → Contains some one → Contains items one) → (one : Held) → Contains items one → Contains some one
all_there items some once apart many from one has = by (is_noted some one.cell) refl
  where
    -- with one more there would be too many
    more : List Cell
    more = cells_noted some ++ one.cell ∷ []

    among : (cell : Cell) → Contains (cells_noted some) cell ⊎ (one.cell ≡ cell) → is_noted items cell ≡ true
    among cell (inl there) =
        let it = map_from (λ (held : Held). held.cell) some cell there in
        subst (λ cell. is_noted items cell ≡ true) it.is (noted_of items it.at (from it.at it.has))
    among cell (inr is) = subst (λ cell. is_noted items cell ≡ true) is (noted_of items one has)

    by : (known : Bool) → is_noted some one.cell ≡ known → Contains some one
    by true known =
        let it = noted_from some one.cell known in
        subst (Contains some) (one_cell items once it.at one (from it.at it.has) has it.is) it.has
    by false known =
        let few = length-le_from_is_member cells_equiv more (cells_noted items) (IsDistinct-push cells_equiv (cells_noted some) one.cell apart known)
        (λ cell is. among cell (Contains-push_cases (cells_noted some) one.cell cell (Contains-from_any same_cell cell more is))) in
        let longer = length-append (cells_noted some) (one.cell ∷ []) in
        let there = length-map some (λ (held : Held). held.cell) in
        let all = length-map items (λ (held : Held). held.cell) in absurd (omega (arith, few, longer, there, all, many))

pub members : (items : List Held) (order : List ℕ) → AreOnce items → RisesAll items order
    → (one : Held) → Contains (picked_out items order) one ↔ Contains items one
members items order once rises one = (
  picked_from items order one,
  all_there items (picked_out items order) once (rising_once (picked_out items order) rises.so.up) (rises.so.many ∙ rises.all) (picked_from items order) one,
)

-- what is so of an answer gives another
pub for_ok : {X E : Type 0} (P Q : X → Type 0) (result : Result X E) → IfOk result P → ((x : X) → P x → Q x) → IfOk result Q
for_ok P Q (Ok x) holds gives = gives x holds
for_ok P Q (Err why) holds gives = holds

-- ---- one place more

rises_on : (items : List Held) (one : Held) (last : Cell) → AreRisingCells items → ((it : Held) → Contains items it → IsBelowOrSame it.cell last)
    → IsBelow last one.cell → AreRisingCells (items ++ one ∷ [])
rises_on [] one last up under over = ((λ k d near. absurd (omega (arith, near))), tt)
rises_on (first ∷ rest) one last up under over = (
  All-push (λ (later : Held). IsBelow first.cell later.cell) rest one up.0
      (below_on first.cell last one.cell (under first (first_of first rest)) over),
  rises_on rest one last up.1 (λ it has. under it (Contains-append_right (first ∷ []) rest it has)) over,
)
  where
    below_on : (a b c : Cell) → IsBelowOrSame a b → IsBelow b c → IsBelow a c
    below_on a b c (inl one) (inl other) = inl (omega (arith, one, other))
    below_on a b c (inl one) (inr (slot, step)) = inl (omega (arith, one, slot))
    below_on a b c (inr (slot, step)) (inl other) = inl (omega (arith, other, slot))
    below_on a b c (inr (slot, step)) (inr (same, later)) = inr (slot ∙ same, omega (arith, step, later))

pub one_above : (items : List Held) (order : List ℕ) (place : ℕ) (last : Cell) (one : Held) → RisesTo items order last
    → RisesAbove items place last one → RisesTo items (order ++ place ∷ []) one.cell
one_above items order place last one to above = record {
  so = record {
    many = ap length next ∙ length-append (picked_out items order) (one ∷ [])
        ∙ (let before = to.so.many in let after = length-append order (place ∷ []) in omega (arith, before, after));
    up = subst AreRisingCells (sym next) (rises_on (picked_out items order) one last to.so.up to.under above.above);
  };
  under = λ it has.
      by it (Contains-push_cases (picked_out items order) one it (subst (λ all. Contains all it) next has));
}
  where
    next : picked_out items (order ++ place ∷ []) ≡ picked_out items order ++ one ∷ []
    next = picked_there items order place one above.there

    by : (it : Held) → Contains (picked_out items order) it ⊎ (one ≡ it) → IsBelowOrSame it.cell one.cell
    by it (inl before) =
        at_most_both it.cell last one.cell (to.under it before) (below_at_most last one.cell above.above)
    by it (inr same) = subst (λ (other : Held). IsBelowOrSame other.cell one.cell) same (itself one.cell)

pub none_yet : (items : List Held) (last : Cell) → RisesTo items [] last
none_yet items last = record { so = record { many = refl; up = tt }; under = λ one has. absurd (omega (arith, has.1)) }

-- ---- places that are sorted

pub numbered : (from count last : ℕ) → from + count ≡ last → range_with_len from (suc count) ≡ range_with_len from count ++ last ∷ []
numbered from zero last is = let same : from ≡ last = omega (arith, is) in ap (λ n. n ∷ []) same
numbered from (suc count) last is =
    let next : (from + 1) + count ≡ last = omega (arith, is) in ap (λ rest. from ∷ rest) (numbered (from + 1) count last next)

module _ (items : List Held) (blank : Held) where
  abbrev at : ℕ → Held
  at place = get_or items place blank

  picked_all : (order : List ℕ) → ((place : ℕ) → Contains order place → place < length items) → picked_out items order ≡ map at order
  picked_all [] near = refl
  picked_all (place ∷ order) near =
      ap (λ found. cons_option found (picked_out items order)) (slice_get-get_or items place blank (near place (first_of place order)))
      ∙ ap (λ rest. at place ∷ rest) (picked_all order (λ other has. near other (Contains-append_right (place ∷ []) order other has)))

  in_range : (order : List ℕ) → IsPermutation (range_with_len 0 (length items)) order → (place : ℕ) → Contains order place → place < length items
  in_range order moved place has =
      let there = Contains-permutation order (range_with_len 0 (length items)) place (IsPermutation-sym _ _ moved) has in
      let many = length-range_with_len 0 (length items) in
      let near : there.0 < length items = let within = there.1 in omega (arith, within, many) in
      let is = get_or-range_with_len 0 (length items) there.0 place near in
      let same = there.2 in omega (arith, is, same, near)

  sorted_at : (order : List ℕ) → ((place : ℕ) → Contains order place → place < length items)
      → IsSortedByKey (rank_in items) (λ one other. ordering_then (nat_cmp one.0 other.0) (nat_cmp one.1 other.1)) order
      → IsSortedByKey place_of (λ one other. ordering_then (nat_cmp one.0 other.0) (nat_cmp one.1 other.1)) (map at order)
  sorted_at order near up k d low high =
      let many = length-map order at in
      let next : k + 1 < length order = omega (arith, high, many) in
      let this : k < length order = omega (arith, next) in
      let one = ranked k this in
      let other = ranked (k + 1) next in
      subst (λ it. is_lt (ordering_then (nat_cmp (place_of (get_or (map at order) (k + 1) d)).0 it.0)
      (nat_cmp (place_of (get_or (map at order) (k + 1) d)).1 it.1)) ≡ false) (one d)
      (subst (λ it. is_lt (ordering_then (nat_cmp it.0 (rank_in items (get_or order k 0)).0) (nat_cmp it.1 (rank_in items (get_or order k 0)).1)) ≡ false)
      (other d) (up k 0 low next))
    where
      ranked : (k : ℕ) → k < length order → (d : Held) → rank_in items (get_or order k 0) ≡ place_of (get_or (map at order) k d)
      ranked k within d =
          ap rank_of (slice_get-get_or items (get_or order k 0) blank (near (get_or order k 0) (Contains-get_or order k 0 within)))
          ∙ ap place_of (sym (get_or-map at order k 0 d within))

  sorted_all : (order : List ℕ) → AreOnce items → IsPermutation (range_with_len 0 (length items)) order
      → IsSortedByKey (rank_in items) (λ one other. ordering_then (nat_cmp one.0 other.0) (nat_cmp one.1 other.1)) order → RisesAll items order
  sorted_all order once moved up =
      let near = in_range order moved in
      let here : picked_out items order ≡ map at order = picked_all order near in
      let whole : items ≡ map at (range_with_len 0 (length items)) = fill_by_all at items (length items) blank refl (λ k within. refl) in
      let moves : IsPermutation items (map at order) =
      subst (λ all. IsPermutation all (map at order)) (sym whole) (IsPermutation-map at (range_with_len 0 (length items)) order moved) in
      record {
        all = length_permutation (range_with_len 0 (length items)) order moved ∙ length-range_with_len 0 (length items);
        so = record {
          many = ap length here ∙ length-map order at;
          up = subst AreRisingCells (sym here) (rising items (map at order) moves once (sorted_at order near up));
        };
      }

pub sorted_rises : (items : List Held) (order : List ℕ) → AreOnce items → IsPermutation (range_with_len 0 (length items)) order
    → IsSortedByKey (rank_in items) (λ one other. ordering_then (nat_cmp one.0 other.0) (nat_cmp one.1 other.1)) order → RisesAll items order
sorted_rises [] order once moved up =
    let none = length_permutation [] order moved in empty order none
  where
    empty : (order : List ℕ) → length order ≡ 0 → RisesAll [] order
    empty [] none = record { all = refl; so = record { many = refl; up = tt } }
    empty (place ∷ order) none = absurd (omega (arith, none))
sorted_rises (first ∷ items) order once moved up = sorted_all (first ∷ items) first order once moved up

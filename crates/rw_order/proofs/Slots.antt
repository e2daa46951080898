-- An object's slots by place, and the place of each slot.
use Rattle.rw_order.proofs.Common.{Bool, List, None, Object, Option, Placed, Slot, Some, [], all_slots, ap, ap₂, arith, false, first_from}
use Rattle.rw_order.proofs.Common.{if◌then◌else◌, inl, inr, is_in_place, length, nat_eq_equiv, none-some, numbered-known}
use Rattle.rw_order.proofs.Common.{placed_from, refl, same_Some, slice_get, slot_at, slot_in_place, slots_from, slots_of, subst, suc, sym}
use Rattle.rw_order.proofs.Common.{true, zero, ℕ, ◌&&◌, ◌++◌, ◌+◌, ◌-◌, ◌∙◌, ◌∷◌, ◌≡◌, ◌≤◌, ◌⊎◌}
use Rattle.rw_model.proofs.Owned.{found_at, placed_in}

-- ---- each slot has a place of its own

place_from : (owner place : ℕ) (slots : List (Option Slot)) (k : ℕ) (p : Placed) → slice_get (placed_from owner place slots) k ≡ Some p
    → (place ≤ p.place) × (p.owner ≡ owner)
place_from owner place [] k p is = absurd (none-some _ is)
place_from owner place (None ∷ slots) k p is = let rest = place_from owner (place + 1) slots k p is in let low =
    rest.0 in (omega (arith, low), rest.1)
place_from owner place (Some slot ∷ slots) zero p is =
    let same : record { owner = owner; place = place; slot = slot } ≡ p = same_Some _ _ is in
    let at : place ≡ p.place = ap (λ (q : Placed). q.place) same in (omega (arith, at), ap (λ (q : Placed). q.owner) (sym same))
place_from owner place (Some slot ∷ slots) (suc k) p is = let rest = place_from owner (place + 1) slots k p is in let low =
    rest.0 in (omega (arith, low), rest.1)

one_place : (owner place : ℕ) (slots : List (Option Slot)) (j k : ℕ) (p q : Placed) → slice_get (placed_from owner place slots) j ≡ Some p
    → slice_get (placed_from owner place slots) k ≡ Some q → p.place ≡ q.place → j ≡ k
one_place owner place [] j k p q x y same = absurd (none-some _ x)
one_place owner place (None ∷ slots) j k p q x y same = one_place owner (place + 1) slots j k p q x y same
one_place owner place (Some slot ∷ slots) zero zero p q x y same = refl
one_place owner place (Some slot ∷ slots) zero (suc k) p q x y same =
    let at : place ≡ p.place = ap (λ (r : Placed). r.place) (same_Some _ _ x) in
    let later = (place_from owner (place + 1) slots k q y).0 in absurd (omega (arith, at, later, same))
one_place owner place (Some slot ∷ slots) (suc j) zero p q x y same =
    let at : place ≡ q.place = ap (λ (r : Placed). r.place) (same_Some _ _ y) in
    let later = (place_from owner (place + 1) slots j p x).0 in absurd (omega (arith, at, later, same))
one_place owner place (Some slot ∷ slots) (suc j) (suc k) p q x y same = ap suc (one_place owner (place + 1) slots j k p q x y same)

-- in which of two lists
split_at : (xs ys : List Placed) (k : ℕ) (p : Placed) → slice_get (xs ++ ys) k ≡ Some p
    → (slice_get xs k ≡ Some p) ⊎ ((i : ℕ) × (k ≡ length xs + i) × (slice_get ys i ≡ Some p))
split_at [] ys k p is = inr (k, omega arith, is)
split_at (x ∷ xs) ys zero p is = inl is
split_at (x ∷ xs) ys (suc k) p is = elim (split_at xs ys k p is) [
  | inl first ↦ inl first
  | inr later ↦ let at = later.1 in inr (later.0, omega (arith, at), later.2)
]

owner_from : (number : ℕ) (objects : List Object) (k : ℕ) (p : Placed) → slice_get (slots_from number objects) k ≡ Some p → number ≤ p.owner
owner_from number [] k p is = absurd (none-some _ is)
owner_from number (object ∷ objects) k p is = elim (split_at (placed_from number 0 (slots_of object.kind)) (slots_from (number + 1) objects) k p is) [
  | inl first ↦ let at = (place_from number 0 (slots_of object.kind) k p first).1 in omega (arith, at)
  | inr later ↦ let low = owner_from (number + 1) objects later.0 p later.2 in omega (arith, low)
]

one_number : (number : ℕ) (objects : List Object) (j k : ℕ) (p q : Placed) → slice_get (slots_from number objects) j ≡ Some p
    → slice_get (slots_from number objects) k ≡ Some q
    → p.owner ≡ q.owner → p.place ≡ q.place → j ≡ k
one_number number [] j k p q x y owners places_same = absurd (none-some _ x)
one_number number (object ∷ objects) j k p q x y owners places_same =
    let own = placed_from number 0 (slots_of object.kind) in
    elim (split_at own (slots_from (number + 1) objects) j p x) [
      | inl a ↦ elim (split_at own (slots_from (number + 1) objects) k q y) [
        | inl b ↦ one_place number 0 (slots_of object.kind) j k p q a b places_same
        | inr b ↦
            let low = owner_from (number + 1) objects b.0 q b.2 in
            let at = (place_from number 0 (slots_of object.kind) j p a).1 in absurd (omega (arith, low, at, owners))
      ]
      | inr a ↦ elim (split_at own (slots_from (number + 1) objects) k q y) [
        | inl b ↦
            let low = owner_from (number + 1) objects a.0 p a.2 in
            let at = (place_from number 0 (slots_of object.kind) k q b).1 in absurd (omega (arith, low, at, owners))
        | inr b ↦
            let same = one_number (number + 1) objects a.0 b.0 p q a.2 b.2 owners places_same in
            let x_at = a.1 in
            let y_at = b.1 in omega (arith, same, x_at, y_at)
      ]
    ]

first_there : (n j : ℕ) (test : Placed → Bool) (slots : List Placed) (p : Placed) → slice_get slots j ≡ Some p → test p ≡ true
    → (k : ℕ) × (first_from n test slots ≡ Some k)
first_there n j test [] p is passes_it = absurd (none-some _ is)
first_there n zero test (first ∷ slots) p is passes_it =
    let here : test first ≡ true = subst (λ q. test q ≡ true) (sym (same_Some _ _ is)) passes_it in
    (n, ap (λ t. if t then Some n else first_from (n + 1) test slots) here)
first_there n (suc j) test (first ∷ slots) p is passes_it = by (test first) refl (first_there (n + 1) j test slots p is passes_it)
  where
    by : (here : Bool) → test first ≡ here → (k : ℕ) × (first_from (n + 1) test slots ≡ Some k)
        → (k : ℕ) × ((if test first then Some n else first_from (n + 1) test slots) ≡ Some k)
    by true passes_here later = (n, ap (λ t. if t then Some n else first_from (n + 1) test slots) passes_here)
    by false fails later = (later.0, ap (λ t. if t then Some n else first_from (n + 1) test slots) fails ∙ later.1)

-- a slot stands in its place of its owner
pub in_its_place : (objects : List Object) (slot : ℕ) (placed_one : Placed) → 1 ≤ slot → slot_at objects slot ≡ Some placed_one
    → slot_in_place objects placed_one.owner placed_one.place ≡ Some slot
in_its_place objects slot placed_one first at =
    let got : slice_get (all_slots objects) (slot - 1) ≡ Some placed_one = sym (numbered-known (all_slots objects) slot first) ∙ at in
    let passes_it : is_in_place placed_one.owner placed_one.place placed_one ≡ true =
    ap₂ (λ a b. a && b) (nat_eq_equiv.refl placed_one.owner) (nat_eq_equiv.refl placed_one.place) in
    let some = first_there 1 (slot - 1) (is_in_place placed_one.owner placed_one.place) (all_slots objects) placed_one got passes_it in
    let found = found_at 1 some.0 (is_in_place placed_one.owner placed_one.place) (all_slots objects) some.1 in
    let own = placed_in objects placed_one.owner placed_one.place some.0 some.1 in
    let is_own : own.placed ≡ found.placed =
    same_Some _ _ (sym own.at ∙ numbered-known (all_slots objects) some.0 found.after ∙ found.found) in
    let same = one_number 1 objects (some.0 - 1) (slot - 1) found.placed placed_one found.found got
    (subst (λ (q : Placed). q.owner ≡ placed_one.owner) is_own own.owns) (subst (λ (q : Placed). q.place ≡ placed_one.place) is_own own.there) in
    let after = found.after in
    let number : some.0 ≡ slot = omega (arith, same, after, first) in
    some.1 ∙ ap Some number

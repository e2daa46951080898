-- The slot that an object has in a place is the object's, and is in no other place.
use Rattle.rw_base.proofs.Common.{Bool, List, Some, [], ap, arith, false, if◌then◌else◌, nat_tests, option_map, refl, slice_get, suc, sym, true}
use Rattle.rw_base.proofs.Common.{unwrap_or, ℕ, ◌&&◌, ◌+◌, ◌-◌, ◌==◌, ◌∙◌, ◌∷◌, ◌≡◌, ◌≤◌}
use Rattle.rw_model.specs.Objects.{Object, Placed, all_slots, first_from, is_in_place, slot_at, slot_in_place}
use Rattle.rw_model.specs.Links.{owner_of}
use Rattle.rw_model.proofs.Numbered.{numbered-known}

-- the first that passes, from the number of the first on
pub record IsFound (n k : ℕ) (test : Placed → Bool) (slots : List Placed) : Type 0 where
  pub placed : Placed
  pub after : n ≤ k
  pub found : slice_get slots (k - n) ≡ Some placed
  pub passes : test placed ≡ true

pub found_at : (n k : ℕ) (test : Placed → Bool) (slots : List Placed) → first_from n test slots ≡ Some k → IsFound n k test slots
found_at n k test [] found = absurd (cc)
found_at n k test (first ∷ rest) found = by (test first) refl found (found_at (n + 1) k test rest)
  where
    by : (here : Bool) → test first ≡ here → (if here then Some n else first_from (n + 1) test rest) ≡ Some k
        → (first_from (n + 1) test rest ≡ Some k → IsFound (n + 1) k test rest) → IsFound n k test (first ∷ rest)
    by true here found later =
        let at : n ≡ k = cc in
        let start : k - n ≡ 0 = omega (arith, at) in
        record { placed = first; after = omega (arith, at); found = ap (slice_get (first ∷ rest)) start; passes = here }
    by false here found later =
        let is = later found in
        let start : k - n ≡ suc (k - (n + 1)) = omega (arith, is.after) in
        record { placed = is.placed; after = omega (arith, is.after); found = ap (slice_get (first ∷ rest)) start ∙ is.found; passes = is.passes }

both_same : (a b c d : ℕ) → (a == b && c == d) ≡ true → (a ≡ b) × (c ≡ d)
both_same a b c d same = (grind (arith, nat_tests), grind (arith, nat_tests))

-- the slot of this number is the object's, in this place
pub record IsPlaced (objects : List Object) (owner place number : ℕ) : Type 0 where
  pub placed : Placed
  pub at : slot_at objects number ≡ Some placed
  pub owns : placed.owner ≡ owner
  pub there : placed.place ≡ place

pub placed_in : (objects : List Object) (owner place number : ℕ) → slot_in_place objects owner place ≡ Some number
    → IsPlaced objects owner place number
placed_in objects owner place number found =
    let is = found_at 1 number (is_in_place owner place) (all_slots objects) found in
    let same = both_same is.placed.owner owner is.placed.place place is.passes in
    record { placed = is.placed; at = numbered-known (all_slots objects) number is.after ∙ is.found; owns = same.0; there = same.1 }

pub owner_in : (objects : List Object) (owner place number : ℕ) → slot_in_place objects owner place ≡ Some number → owner_of objects number ≡ owner
owner_in objects owner place number found =
    let is = placed_in objects owner place number found in
    ap (λ placed. unwrap_or (option_map (λ (p : Placed). p.owner) placed) 0) is.at ∙ is.owns

pub same_place : (objects : List Object) (owner place other number : ℕ) → slot_in_place objects owner place ≡ Some number
    → slot_in_place objects owner other ≡ Some number → place ≡ other
same_place objects owner place other number found there =
    let is = placed_in objects owner place number found in
    let also = placed_in objects owner other number there in
    let one : is.placed ≡ also.placed = let a = is.at in let b = also.at in cc in
    sym is.there ∙ ap (λ (p : Placed). p.place) one ∙ also.there

-- The places of cells.
use Rattle.rw_base.proofs.Common.{◌≡◌, ◌≢◌, ℕ, ◌+◌, ◌-◌, ◌*◌, ◌<◌, ◌≤◌, ◌==◌, ◌&&◌, Bool, true, false, if◌then◌else◌, List, length, Option, None}
use Rattle.rw_base.proofs.Common.{refl, ap, ◌∙◌, arith, slice_index_or, slice_set, mul_comm, nat_tests, get_or-set_same, get_or-set_other}
use Rattle.rw_base.proofs.Common.{get_or_default}
use Rattle.std.proofs.Math.Nat.{mul-le-mul_right}
use Rattle.rw_series.specs.Cells.{is_kept, position_of, kept_at}

-- such a slot and such a timestep
pub record Kept (slots steps slot step : ℕ) : Type 0 where
  pub first_slot : 1 ≤ slot
  pub last_slot : slot ≤ slots
  pub first_step : 1 ≤ step
  pub last_step : step ≤ steps

pub Kept-of : (slots steps slot step : ℕ) → is_kept slots steps slot step ≡ true → Kept slots steps slot step
Kept-of slots steps slot step kept = record {
  first_slot = grind (arith, nat_tests);
  last_slot = grind (arith, nat_tests);
  first_step = grind (arith, nat_tests);
  last_step = grind (arith, nat_tests);
}

rows_below : (a b n : ℕ) → a + 1 ≤ b → a * n + n ≤ b * n
rows_below a b n below = let rows : (a + 1) * n ≤ b * n = mul-le-mul_right n below in omega (arith, rows)

pub within : (slots steps slot step : ℕ) → Kept slots steps slot step → position_of slots slot step < slots * steps
within slots steps slot step kept =
    let near : (step - 1) + 1 ≤ steps = omega (arith, kept.first_step, kept.last_step) in
    let rows = rows_below (step - 1) steps slots near in
    omega (arith, rows, mul_comm slots steps, kept.first_slot, kept.last_slot)

-- a later timestep has later places
after : (slots steps s t p q : ℕ) → Kept slots steps s t → Kept slots steps p q → t < q → position_of slots s t < position_of slots p q
after slots steps s t p q one other below =
    let near : (t - 1) + 1 ≤ q - 1 = omega (arith, below, one.first_step) in
    let rows = rows_below (t - 1) (q - 1) slots near in
    omega (arith, rows, one.first_slot, one.last_slot)

-- cells in one place are one cell
pub same_step : (slots steps s t p q : ℕ) → Kept slots steps s t → Kept slots steps p q → position_of slots s t ≡ position_of slots p q → t ≡ q
same_step slots steps s t p q one other same =
    let up : ¬ (t < q) = λ below. omega (arith, after slots steps s t p q one other below, same) in
    let down : ¬ (q < t) = λ below. omega (arith, after slots steps p q s t other one below, same) in
    omega (arith, up, down)

pub same_slot : (slots steps s t p q : ℕ) → Kept slots steps s t → Kept slots steps p q → position_of slots s t ≡ position_of slots p q → s ≡ p
same_slot slots steps s t p q one other same =
    let step = same_step slots steps s t p q one other same in
    let rows : (t - 1) * slots ≡ (q - 1) * slots = ap (λ x. (x - 1) * slots) step in
    omega (arith, rows, same, one.first_slot, other.first_slot)

abbrev is_same : ℕ → ℕ → ℕ → ℕ → Bool
is_same slot step s t = s == slot && t == step

same_cell : (slot step s t : ℕ) → is_same slot step s t ≡ true → (s ≡ slot) × (t ≡ step)
same_cell slot step s t same = (grind (arith, nat_tests), grind (arith, nat_tests))

other_cell : (slot step s t : ℕ) → is_same slot step s t ≡ false → s ≡ slot → t ≢ step
other_cell slot step s t other slots steps = grind (arith, nat_tests)

module _ (A : Type 0) (slots steps : ℕ) (cells : List (Option A)) (slot step : ℕ) (content : Option A) (whole : length cells ≡ slots * steps)
    (kept : is_kept slots steps slot step ≡ true) (s t : ℕ) where
  set-unkept : is_kept slots steps s t ≡ false → (test : Bool) → is_same slot step s t ≡ test
      → kept_at slots steps (slice_set cells (position_of slots slot step) content) s t ≡ (if test then content else kept_at slots steps cells s t)
  set-unkept unkept true same =
      let at = same_cell slot step s t same in
      let here : is_kept slots steps s t ≡ true = ap (λ u. is_kept slots steps u t) at.0 ∙ ap (λ u. is_kept slots steps slot u) at.1 ∙ kept in
      absurd (cc)
  set-unkept unkept false same = rw unkept refl

  set-kept : is_kept slots steps s t ≡ true → (test : Bool) → is_same slot step s t ≡ test
      → kept_at slots steps (slice_set cells (position_of slots slot step) content) s t ≡ (if test then content else kept_at slots steps cells s t)
  set-kept there true same =
      let at = same_cell slot step s t same in
      let near : position_of slots slot step < length cells =
      omega (arith, whole, within slots steps slot step (Kept-of slots steps slot step kept)) in
      rw there (ap (λ u. slice_index_or (slice_set cells (position_of slots slot step) content) u None)
      (ap (λ u. position_of slots u t) at.0 ∙ ap (λ u. position_of slots slot u) at.1)
      ∙ get_or-set_same cells (position_of slots slot step) content None near)
  set-kept there false same =
      let one = Kept-of slots steps s t there in
      let this = Kept-of slots steps slot step kept in
      let apart : position_of slots s t ≢ position_of slots slot step =
      λ at. other_cell slot step s t same (same_slot slots steps s t slot step one this at) (same_step slots steps s t slot step one this at) in
      rw there (get_or-set_other cells (position_of slots slot step) (position_of slots s t) content None apart)

  set-either : (test : Bool) → is_kept slots steps s t ≡ test
      → kept_at slots steps (slice_set cells (position_of slots slot step) content) s t
      ≡ (if is_same slot step s t then content else kept_at slots steps cells s t)
  set-either true there = set-kept there (is_same slot step s t) refl
  set-either false there = set-unkept there (is_same slot step s t) refl

-- a cell is set, and no other changes
pub kept_at-set : {A : Type 0} (slots steps : ℕ) (cells : List (Option A)) (slot step : ℕ) (content : Option A) → length cells ≡ slots * steps
    → is_kept slots steps slot step ≡ true → (s t : ℕ)
    → kept_at slots steps (slice_set cells (position_of slots slot step) content) s t
    ≡ (if s == slot && t == step then content else kept_at slots steps cells s t)
kept_at-set {A} slots steps cells slot step content whole kept s t =
    set-either A slots steps cells slot step content whole kept s t (is_kept slots steps s t) refl

-- what stands in the place of a cell is kept of it
pub kept_at-at : {A : Type 0} (slots steps : ℕ) (cells : List (Option A)) (slot step place : ℕ) (d : Option A) → is_kept slots steps slot step ≡ true
    → place ≡ position_of slots slot step → place < length cells
    → slice_index_or cells place d ≡ kept_at slots steps cells slot step
kept_at-at slots steps cells slot step place d kept at near =
    rw kept (get_or_default cells place d None near ∙ ap (λ u. slice_index_or cells u None) at)
